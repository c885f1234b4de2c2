-- What is written of a row of lines is read back, and only that; and a fault is told whatever follows. Assumes nothing.
use Rattle.std.proofs.Common.{◌≡◌, ℕ, zero, suc, ◌+◌, ◌≤◌, Bool, true, false, cond, ltb, ◌⊎◌, List, [], ◌∷◌, ◌++◌, length, take, drop, Ok, Err, Result, sym, refl, ap, ◌∙◌, inl, inr, append_assoc, append-nil, arith, take-append-drop, length-take, ltb-false}
use Rattle.std.specs.Result.{result_map_both}
use Rattle.std.proofs.lemmas.List.{length_push}
use Rattle.std.proofs.lemmas.Bool.{and_parts, and_from, cond-true, cond-false}
use Rattle.narrow.specs.Rows.{all}
use Rattle.narrow.specs.Term.{Bytes}
use Rattle.narrow.proofs.Rows.{contradiction}
use Rattle.lines.specs.declared.Fault.{Fault}
use Rattle.lines.specs.declared.Fault.TheVariants.{Shape, TooMany}
use Rattle.lines.specs.declared.Place.{Place}
use Rattle.rows.specs.Standing.{most_at, stands, pushed}
use Rattle.rows.specs.Rowing.{next, part_at, lines_from, row_at}
use Rattle.rows.specs.Wire.{wire}
use Rattle.rows.proofs.Pushing.{push_parts, push_standing}
use Rattle.rows.proofs.Rowings.{part_whole, row_lines}

-- a next step that came to a value: there was one before it
pub next_value : {A B : Type 0} (r : Result A Fault) (k : A → Result B Fault) (y : B) → next r k ≡ Ok y → (x : A) × (r ≡ Ok x) × (k x ≡ Ok y)
next_value (Ok x) k y e = (x, refl, e)
next_value (Err f) k y e = contradiction (cc)

-- a next step that came to a fault: it was there before, or came of the step
pub next_fault : {A B : Type 0} (r : Result A Fault) (k : A → Result B Fault) (f : Fault) → next r k ≡ Err f → (r ≡ Err f) ⊎ ((x : A) × (r ≡ Ok x) × (k x ≡ Err f))
next_fault (Ok x) k f e = inr (x, refl, e)
next_fault (Err g) k f e = inl (cc)

-- a result that was mapped to a value is that of some value
pub mapped_value : {A B : Type 0} {g : A → B} (r : Result A Fault) (y : B) → result_map_both g (λ f. f) r ≡ Ok y → (x : A) × (r ≡ Ok x) × (g x ≡ y)
mapped_value (Ok x) y e = (x, refl, cc)
mapped_value (Err f) y e = contradiction (cc)

-- what a step comes to, by what came before
pub next_on : {A B : Type 0} (r : Result A Fault) (k : A → Result B Fault) (x : A) → r ≡ Ok x → next r k ≡ k x
next_on r k x e = ap (λ (q : Result _ Fault). next q k) e

pub next_stop : {A B : Type 0} (r : Result A Fault) (k : A → Result B Fault) (f : Fault) → r ≡ Err f → next r k ≡ Err f
next_stop r k f e = ap (λ (q : Result _ Fault). next q k) e

-- a test that chooses a value
pub chosen : {A : Type 0} (b : Bool) (x y : Result A Fault) (r : Result A Fault) → cond b x y ≡ r → ((b ≡ true) × (x ≡ r)) ⊎ ((b ≡ false) × (y ≡ r))
chosen true x y r e = inl (refl, e)
chosen false x y r e = inr (refl, e)

-- two pairs that are read are one, part by part
pub pair_same : {A B : Type 0} (a c : A) (b d : B) → ◌≡◌ {A = Result (A × B) Fault} (Ok (a, b)) (Ok (c, d)) → (a ≡ c) × (b ≡ d)
pair_same {A} {B} a c b d e =
    let q : ◌≡◌ {A = A × B} (a, b) (c, d) = cc in
    (ap (λ (p : A × B). p.0) q, ap (λ (p : A × B). p.1) q)

part_back : (l after : Bytes) → part_at (length l ∷ l ++ after) ≡ Ok (l, after)
part_back l after = part_whole (length l ∷ l ++ after) (length l) (l ++ after) refl l after refl refl

part_only : (bs l after : Bytes) → part_at bs ≡ Ok (l, after) → bs ≡ length l ∷ l ++ after
part_only [] l after e = contradiction (cc)
part_only (n ∷ bs) l after e = by (chosen (ltb (length bs) n) (Err Shape) (Ok (take n bs, drop n bs)) (Ok (l, after)) e)
  where
    by : ((ltb (length bs) n ≡ true) × (◌≡◌ {A = Result (Bytes × Bytes) Fault} (Err Shape) (Ok (l, after)))) ⊎ ((ltb (length bs) n ≡ false) × (◌≡◌ {A = Result (Bytes × Bytes) Fault} (Ok (take n bs, drop n bs)) (Ok (l, after)))) → n ∷ bs ≡ length l ∷ l ++ after
    by (inl (h, q)) = contradiction (cc)
    by (inr (h, q)) =
        let (front, back) = pair_same (take n bs) l (drop n bs) after q in
        let size : n ≡ length l = omega (arith, ltb-false (length bs) n h, length-take n bs, ap length front) in
        λ i. size i ∷ (sym (take-append-drop n bs) ∙ λ j. front j ++ back j) i

part_fault : (bs : Bytes) (f : Fault) → part_at bs ≡ Err f → f ≡ Shape
part_fault [] f e = cc
part_fault (n ∷ bs) f e = by (chosen (ltb (length bs) n) (Err Shape) (Ok (take n bs, drop n bs)) (Err f) e)
  where
    by : ((ltb (length bs) n ≡ true) × (◌≡◌ {A = Result (Bytes × Bytes) Fault} (Err Shape) (Err f))) ⊎ ((ltb (length bs) n ≡ false) × (◌≡◌ {A = Result (Bytes × Bytes) Fault} (Ok (take n bs, drop n bs)) (Err f))) → f ≡ Shape
    by (inl (h, q)) = cc
    by (inr (h, q)) = contradiction (cc)

part_kept : (bs more l after : Bytes) → part_at bs ≡ Ok (l, after) → part_at (bs ++ more) ≡ Ok (l, after ++ more)
part_kept bs more l after e =
    ap (λ (b : Bytes). part_at (b ++ more)) (part_only bs l after e) ∙
    (ap (λ (b : Bytes). part_at (length l ∷ b)) (append_assoc l after more) ∙ part_back l (after ++ more))

module _ (p : Place) where
  lines_back : (ls acc : List Bytes) (rest : Bytes) → all (stands p) ls ≡ true → length acc + length ls ≤ most_at p → lines_from p (length ls) acc (wire ls ++ rest) ≡ Ok (acc ++ ls, rest)
  unfolding lines_from wire all
  lines_back [] acc rest h room = λ i. Ok (sym (append-nil acc) i, rest)
  lines_back (l ∷ ls) acc rest h room =
      let (here, below) = and_parts (stands p l) (all (stands p) ls) h in
      let read : part_at (wire (l ∷ ls) ++ rest) ≡ Ok (l, wire ls ++ rest) = ap (λ (b : Bytes). part_at (length l ∷ b)) (append_assoc l (wire ls) rest) ∙ part_back l (wire ls ++ rest) in
      let added = push_standing p acc l here (omega arith) in
      next_on _ _ (l, wire ls ++ rest) read ∙
      (next_on _ _ (acc ++ l ∷ []) added ∙
      (lines_back ls (acc ++ l ∷ []) rest below (omega (arith, length_push acc l)) ∙ λ i. Ok (append_assoc acc (l ∷ []) ls i, rest)))

  lines_only : (n : ℕ) (acc : List Bytes) (bs : Bytes) (out : List Bytes) (rest : Bytes) → lines_from p n acc bs ≡ Ok (out, rest) →
      (ls : List Bytes) × (out ≡ acc ++ ls) × (length ls ≡ n) × (all (stands p) ls ≡ true) × (bs ≡ wire ls ++ rest)
  unfolding lines_from wire all
  lines_only zero acc bs out rest e = let (same, left) = pair_same acc out bs rest e in ([], sym same ∙ sym (append-nil acc), refl, refl, left)
  lines_only (suc n) acc bs out rest e =
      let (a, read, e1) = next_value (part_at bs) _ (out, rest) e in
      let (more, added, e2) = next_value (pushed p acc a.0) _ (out, rest) e1 in
      let (longer, room, here) = push_parts p acc a.0 more added in
      let (ls, are, many, good, bytes) = lines_only n more a.1 out rest e2 in
      let parts = part_only bs a.0 a.1 read in (
        a.0 ∷ ls,
        are ∙ (ap (λ (m : List Bytes). m ++ ls) longer ∙ append_assoc acc (a.0 ∷ []) ls),
        ap suc many,
        and_from (stands p a.0) (all (stands p) ls) here good,
        parts ∙ ap (λ (b : Bytes). length a.0 ∷ b) (ap (λ (b : Bytes). a.0 ++ b) bytes ∙ sym (append_assoc a.0 (wire ls) rest)),
      )

  lines_told : (n : ℕ) (acc : List Bytes) (bs more : Bytes) (f : Fault) → lines_from p n acc bs ≡ Err f → (f ≡ Shape → ⊥) → lines_from p n acc (bs ++ more) ≡ Err f
  unfolding lines_from
  lines_told zero acc bs more f e ne = contradiction (cc)
  lines_told (suc n) acc bs more f e ne = read (λ m after q. lines_told n m after more f q ne) (next_fault (part_at bs) _ f e)
    where
      add : (l after : Bytes) → ((m : List Bytes) → lines_from p n m after ≡ Err f → lines_from p n m (after ++ more) ≡ Err f) →
          (pushed p acc l ≡ Err f) ⊎ ((m : List Bytes) × (pushed p acc l ≡ Ok m) × (lines_from p n m after ≡ Err f)) → next (pushed p acc l) (λ m. lines_from p n m (after ++ more)) ≡ Err f
      add l after on (inl q) = next_stop _ _ f q
      add l after on (inr (m, q, e2)) = next_on _ _ m q ∙ on m e2

      read : ((m : List Bytes) (after : Bytes) → lines_from p n m after ≡ Err f → lines_from p n m (after ++ more) ≡ Err f) →
          (part_at bs ≡ Err f) ⊎ ((a : Bytes × Bytes) × (part_at bs ≡ Ok a) × (next (pushed p acc a.0) (λ m. lines_from p n m a.1) ≡ Err f)) →
          next (part_at (bs ++ more)) (λ a. next (pushed p acc a.0) (λ m. lines_from p n m a.1)) ≡ Err f
      read on (inl q) = absurd (ne (part_fault bs f q))
      read on (inr (a, q, e1)) =
          next_on _ _ (a.0, a.1 ++ more) (part_kept bs more a.0 a.1 q) ∙ add a.0 a.1 (λ m. on m a.1) (next_fault (pushed p acc a.0) (λ m. lines_from p n m a.1) f e1)

  -- a row that can be is read back, whatever follows
  pub row_back : (ls : List Bytes) (rest : Bytes) → length ls ≤ most_at p → all (stands p) ls ≡ true → row_at p (length ls ∷ wire ls ++ rest) ≡ Ok (ls, rest)
  row_back ls rest few good = row_lines p (length ls ∷ wire ls ++ rest) (length ls) (wire ls ++ rest) refl few ∙ lines_back ls [] rest good (omega arith)

  -- what is read as a row is that row's bytes
  pub row_only : (bs : Bytes) (ls : List Bytes) (rest : Bytes) → row_at p bs ≡ Ok (ls, rest) → (length ls ≤ most_at p) × (all (stands p) ls ≡ true) × (bs ≡ length ls ∷ wire ls ++ rest)
  unfolding row_at
  row_only [] ls rest e = contradiction (cc)
  row_only (n ∷ bs) ls rest e = by (chosen (ltb (most_at p) n) (Err TooMany) (lines_from p n [] bs) (Ok (ls, rest)) e)
    where
      by : ((ltb (most_at p) n ≡ true) × (◌≡◌ {A = Result (List Bytes × Bytes) Fault} (Err TooMany) (Ok (ls, rest)))) ⊎ ((ltb (most_at p) n ≡ false) × (lines_from p n [] bs ≡ Ok (ls, rest))) → (length ls ≤ most_at p) × (all (stands p) ls ≡ true) × (n ∷ bs ≡ length ls ∷ wire ls ++ rest)
      by (inl (h, q)) = contradiction (cc)
      by (inr (h, q)) =
          let (ms, are, many, good, bytes) = lines_only n [] bs ls rest q in (
            omega (arith, ltb-false (most_at p) n h, many, ap length are),
            ap (all (stands p)) are ∙ good,
            λ i. (sym many ∙ ap length (sym are)) i ∷ (bytes ∙ ap (λ (m : List Bytes). wire m ++ rest) (sym are)) i,
          )

  -- a fault other than that of missing bytes is told whatever follows
  pub row_told : (bs more : Bytes) (f : Fault) → row_at p bs ≡ Err f → (f ≡ Shape → ⊥) → row_at p (bs ++ more) ≡ Err f
  unfolding row_at
  row_told [] more f e ne = absurd (ne (cc))
  row_told (n ∷ bs) more f e ne = by (chosen (ltb (most_at p) n) (Err TooMany) (lines_from p n [] bs) (Err f) e)
    where
      by : ((ltb (most_at p) n ≡ true) × (◌≡◌ {A = Result (List Bytes × Bytes) Fault} (Err TooMany) (Err f))) ⊎ ((ltb (most_at p) n ≡ false) × (lines_from p n [] bs ≡ Err f)) → cond (ltb (most_at p) n) (Err TooMany) (lines_from p n [] (bs ++ more)) ≡ Err f
      by (inl (h, q)) = cond-true (ltb (most_at p) n) _ _ h ∙ q
      by (inr (h, q)) = cond-false (ltb (most_at p) n) _ _ h ∙ lines_told n [] bs more f q ne
