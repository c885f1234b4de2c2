-- Which answer the addition of a line gives, step by step. Assumes nothing.
use Rattle.std.proofs.Common.{◌≡◌, ◌<◌, ◌≤◌, Bool, true, false, cond, ltb, List, [], ◌∷◌, ◌++◌, length, Ok, Err, Result, refl, ap, ◌∙◌, ltb-true}
use Rattle.std.proofs.lemmas.Bool.{cond-true, cond-false, lt-ltb, le-ltb}
use Rattle.narrow.specs.Term.{Bytes}
use Rattle.narrow.proofs.Rows.{contradiction}
use Rattle.lines.specs.declared.Fault.{Fault}
use Rattle.lines.specs.declared.Fault.TheVariants.{Unreadable, TooMany}
use Rattle.lines.specs.declared.Place.{Place}
use Rattle.parts.specs.Limits.{LineView}
use Rattle.lines.specs.Meaning.{may_stand}
use Rattle.lines.specs.Reading.{line_of}
use Rattle.rows.specs.Standing.{most_at, stands_if, stands, pushed_if, pushed}

module _ (p : Place) (ls : List Bytes) (l : Bytes) where
  -- a line that can't be read
  pub push_unread : (f : Fault) → line_of l ≡ Err f → pushed p ls l ≡ Err f
  unfolding pushed
  push_unread f e = ap (pushed_if p ls l) e

  module _ (v : LineView) (e : line_of l ≡ Ok v) where
    -- one that may not stand there
    pub push_misplaced : may_stand p v ≡ false → pushed p ls l ≡ Err Unreadable
    unfolding pushed
    push_misplaced h = ap (pushed_if p ls l) e ∙ cond-false (may_stand p v) _ _ h

    pub push_full : may_stand p v ≡ true → most_at p ≤ length ls → pushed p ls l ≡ Err TooMany
    unfolding pushed
    push_full h full =
        ap (pushed_if p ls l) e ∙ (cond-true (may_stand p v) _ _ h ∙ cond-false (ltb (length ls) (most_at p)) _ _ (le-ltb (length ls) (most_at p) full))

    pub push_added : may_stand p v ≡ true → length ls < most_at p → pushed p ls l ≡ Ok (ls ++ l ∷ [])
    unfolding pushed
    push_added h room =
        ap (pushed_if p ls l) e ∙ (cond-true (may_stand p v) _ _ h ∙ cond-true (ltb (length ls) (most_at p)) _ _ (lt-ltb (length ls) (most_at p) room))

    pub stands_there : may_stand p v ≡ true → stands p l ≡ true
    unfolding stands
    stands_there h = ap (stands_if p) e ∙ h

  -- a row that was made longer: by just that line, which may stand there, and there was room
  pub push_parts : (more : List Bytes) → pushed p ls l ≡ Ok more → (more ≡ ls ++ l ∷ []) × (length ls < most_at p) × (stands p l ≡ true)
  unfolding pushed stands
  push_parts more = read (line_of l) refl
    where
      roomy : (b : Bool) → ltb (length ls) (most_at p) ≡ b → cond b (Ok (ls ++ l ∷ [])) (Err TooMany) ≡ Ok more → (more ≡ ls ++ l ∷ []) × (length ls < most_at p)
      roomy true e q = (cc, ltb-true (length ls) (most_at p) e)
      roomy false e q = contradiction (cc)

      placed : (b : Bool) → cond b (cond (ltb (length ls) (most_at p)) (Ok (ls ++ l ∷ [])) (Err TooMany)) (Err Unreadable) ≡ Ok more → (more ≡ ls ++ l ∷ []) × (length ls < most_at p) × (b ≡ true)
      placed true q = let a = roomy (ltb (length ls) (most_at p)) refl q in (a.0, a.1, refl)
      placed false q = contradiction (cc)

      read : (r : Result LineView Fault) → line_of l ≡ r → pushed_if p ls l r ≡ Ok more → (more ≡ ls ++ l ∷ []) × (length ls < most_at p) × (stands_if p (line_of l) ≡ true)
      read (Ok v) e q = let a = placed (may_stand p v) q in (a.0, a.1, ap (stands_if p) e ∙ a.2)
      read (Err f) e q = contradiction (cc)

  -- a line that may stand there is added where there is room
  pub push_standing : stands p l ≡ true → length ls < most_at p → pushed p ls l ≡ Ok (ls ++ l ∷ [])
  unfolding stands
  push_standing = read (line_of l) refl
    where
      read : (r : Result LineView Fault) → line_of l ≡ r → stands_if p r ≡ true → length ls < most_at p → pushed p ls l ≡ Ok (ls ++ l ∷ [])
      read (Ok v) e h room = push_added v e h room
      read (Err f) e h room = contradiction (cc)
