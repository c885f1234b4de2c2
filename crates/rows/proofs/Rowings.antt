-- Reading a row, step by step. Assumes nothing.
use Rattle.std.proofs.Common.{◌≡◌, ℕ, suc, ◌-◌, ◌<◌, ◌≤◌, ltb, List, [], ◌∷◌, ◌++◌, length, take, drop, Some, None, Ok, Err, Option, Result, sym, refl, ap, ◌∙◌, subst, arith, length-append, MatchOption, IfSome, MatchResult}
use Rattle.std.proofs.lemmas.List.{take_at, drop_at}
use Rattle.std.proofs.lemmas.Option.{MatchOption-at_none}
use Rattle.std.proofs.lemmas.Bool.{cond-true, cond-false, lt-ltb, le-ltb}
use Rattle.std.specs.Option.{ok_or}
use Rattle.narrow.specs.Term.{Bytes}
use Rattle.narrow.proofs.Rows.{contradiction}
use Rattle.lines.specs.declared.Fault.{Fault}
use Rattle.lines.specs.declared.Fault.TheVariants.{Shape, TooMany}
use Rattle.lines.specs.declared.Place.{Place}
use Rattle.rows.specs.Standing.{most_at, pushed}
use Rattle.rows.specs.Rowing.{next, part_at, lines_from, row_at}

-- a clause on an option, weaker on both sides
pub some_weaker : {A : Type 0} (o : Option A) {P P' : Type 0} {Q Q' : A → Type 0} → MatchOption o P Q → (P → P') → ((x : A) → Q x → Q' x) → MatchOption o P' Q'
some_weaker None h f g = f h
some_weaker (Some x) h f g = g x h

-- a clause on an option, and one on what is there, as one
pub some_both : {A : Type 0} (o : Option A) (P : Type 0) (Q R : A → Type 0) → MatchOption o P Q → IfSome o R → MatchOption o P (λ x. Q x × R x)
some_both None P Q R h k = h
some_both (Some x) P Q R h k = (h, k)

-- nothing was there, and a fault stands in its place
pub absent : {A : Type 0} (o : Option A) (f g : Fault) → Err g ≡ ok_or o f → (o ≡ None) × (f ≡ g)
absent (Some x) f g e = contradiction (cc)
absent None f g e = (refl, cc)

-- the same with what is known of an option
pub wanting : {A : Type 0} (o : Option A) (P : Type 0) (Q : A → Type 0) (f g : Fault) → Err g ≡ ok_or o f → MatchOption o P Q → P × (f ≡ g)
wanting o P Q f g e h = let (none, same) = absent o f g e in (MatchOption-at_none P Q none h, same)

-- a fault in the place of what is not there, returned as it is
pub wanted : {A : Type 0} (o : Option A) (f : Fault) (r : Result A Fault) {P : Type 0} {Q : A → Type 0} (P' : Fault → Type 0) (Q' : A → Type 0) →
    r ≡ ok_or o f → MatchOption o P Q → (P → P' f) → ((x : A) → Q x → Q' x) → MatchResult r Q' P'
wanted None f r P' Q' e h missing found = subst (λ (q : Result _ Fault). MatchResult q Q' P') (sym e) (missing h)
wanted (Some x) f r P' Q' e h missing found = subst (λ (q : Result _ Fault). MatchResult q Q' P') (sym e) (found x h)

pub part_none : (bs : Bytes) → length bs < 1 → part_at bs ≡ Err Shape
part_none [] h = refl
part_none (b ∷ bs) h = absurd (omega arith)

module _ (bs : Bytes) (n : ℕ) (rest : Bytes) (e : bs ≡ n ∷ rest) where
  pub part_short : length rest < n → part_at bs ≡ Err Shape
  part_short h = ap part_at e ∙ cond-true (ltb (length rest) n) (Err Shape) (Ok (take n rest, drop n rest)) (lt-ltb (length rest) n h)

  pub part_whole : (p after : Bytes) → length p ≡ n → rest ≡ p ++ after → part_at bs ≡ Ok (p, after)
  part_whole p after size q =
      let fits : n ≤ length rest = omega (arith, ap length q, length-append p after) in
      let front : take n rest ≡ p = ap (take n) q ∙ take_at p after n size in
      let back : drop n rest ≡ after = ap (drop n) q ∙ drop_at p after n size in
      ap part_at e ∙ (cond-false (ltb (length rest) n) (Err Shape) (Ok (take n rest, drop n rest)) (le-ltb (length rest) n fits) ∙ λ i. Ok (front i, back i))

-- a count that is not there, or past its bound
pub row_none : (p : Place) (bs : Bytes) → length bs < 1 → row_at p bs ≡ Err Shape
unfolding row_at
row_none p [] h = refl
row_none p (b ∷ bs) h = absurd (omega arith)

module _ (p : Place) (bs : Bytes) (n : ℕ) (rest : Bytes) (e : bs ≡ n ∷ rest) where
  pub row_many : most_at p < n → row_at p bs ≡ Err TooMany
  unfolding row_at
  row_many h = ap (row_at p) e ∙ cond-true (ltb (most_at p) n) _ _ (lt-ltb (most_at p) n h)

  pub row_lines : n ≤ most_at p → row_at p bs ≡ lines_from p n [] rest
  unfolding row_at
  row_lines h = ap (row_at p) e ∙ cond-false (ltb (most_at p) n) _ _ (le-ltb (most_at p) n h)

-- one line more of those that are left
module _ (p : Place) (n : ℕ) (ls : List Bytes) (bs : Bytes) (left : 0 < n) where
  one_more : lines_from p n ls bs ≡ next (part_at bs) (λ a. next (pushed p ls a.0) (λ more. lines_from p (n - 1) more a.1))
  unfolding lines_from
  one_more = let one : n ≡ suc (n - 1) = omega arith in ap (λ (k : ℕ). lines_from p k ls bs) one

  pub lines_short : part_at bs ≡ Err Shape → lines_from p n ls bs ≡ Err Shape
  lines_short e = one_more ∙ ap (λ (r : Result (Bytes × Bytes) Fault). next r (λ a. next (pushed p ls a.0) (λ more. lines_from p (n - 1) more a.1))) e

  module _ (l after : Bytes) (e : part_at bs ≡ Ok (l, after)) where
    lines_at : lines_from p n ls bs ≡ next (pushed p ls l) (λ more. lines_from p (n - 1) more after)
    lines_at = one_more ∙ ap (λ (r : Result (Bytes × Bytes) Fault). next r (λ a. next (pushed p ls a.0) (λ more. lines_from p (n - 1) more a.1))) e

    pub lines_refused : (f : Fault) → pushed p ls l ≡ Err f → lines_from p n ls bs ≡ Err f
    lines_refused f q = lines_at ∙ ap (λ (r : Result (List Bytes) Fault). next r (λ more. lines_from p (n - 1) more after)) q

    pub lines_on : (more : List Bytes) → pushed p ls l ≡ Ok more → lines_from p n ls bs ≡ lines_from p (n - 1) more after
    lines_on more q = lines_at ∙ ap (λ (r : Result (List Bytes) Fault). next r (λ m. lines_from p (n - 1) m after)) q

pub lines_done : (p : Place) (n : ℕ) (ls : List Bytes) (bs : Bytes) → n ≡ 0 → lines_from p n ls bs ≡ Ok (ls, bs)
unfolding lines_from
lines_done p n ls bs e = rw e

-- a row whose lines are read one by one, and what was left to read at some turn
module _ (p q : Place) (bs rest : Bytes) (n i : ℕ) (ls : List Bytes) (after : Bytes) (head : bs ≡ n ∷ rest) (few : n ≤ most_at p) (place : q ≡ p)
    (none : List Bytes) (empty : none ≡ []) (same : lines_from q n none rest ≡ lines_from q (n - i) ls after) where
  pub row_left : row_at p bs ≡ lines_from p (n - i) ls after
  row_left =
      row_lines p bs n rest head few ∙
      (ap (λ (m : List Bytes). lines_from p n m rest) (sym empty) ∙ subst (λ (r : Place). lines_from r n none rest ≡ lines_from r (n - i) ls after) place same)
