-- Formats that are made of exact ones are exact. Assumes nothing.
use Rattle.std.proofs.Common.{◌≡◌, ℕ, zero, suc, Bool, true, false, cond, ◌&&◌, eqb, ltb, leb, ◌⊎◌, List, [], ◌∷◌, ◌++◌, length, take, drop, Some, None, Ok, Err, Option, Result, sym, refl, ap, ◌∙◌, inl, inr, append_assoc, arith, length-append, take-append-drop, length-take, ltb-false, eq-eqb}
use Rattle.std.specs.Option.{ok_or}
use Rattle.std.proofs.lemmas.List.{take_at, drop_at}
use Rattle.std.proofs.lemmas.Bool.{and_parts, and_from, cond-true, cond-false, eqb-true, leb-true, le-leb, le-ltb}
use Rattle.narrow.specs.Rows.{all}
use Rattle.narrow.specs.Term.{Bytes}
use Rattle.narrow.specs.Can.{same_bytes}
use Rattle.narrow.proofs.Rows.{contradiction}
use Rattle.narrow.proofs.Can.{same_bytes_lem}
use Rattle.numbers.specs.Bytes.{two, two_bytes}
use Rattle.numbers.proofs.Bytes.{two_back}
use Rattle.lines.specs.declared.Fault.{Fault}
use Rattle.lines.specs.declared.Fault.TheVariants.{Shape, TooMany}
use Rattle.lines.specs.declared.Place.{Place}
use Rattle.parts.specs.Limits.{WishView}
use Rattle.numbers.specs.Places.{number}
use Rattle.wishes.specs.Reading.{wish_of}
use Rattle.wishes.proofs.Told.{wishes_exact, wishes_back}
use Rattle.rows.specs.Standing.{most_at, stands}
use Rattle.rows.specs.Rowing.{next}
use Rattle.rows.proofs.Exactly.{next_value, next_fault, next_on, next_stop, chosen, pair_same, row_back, row_only, row_told}
use Rattle.codec.specs.Format.{Format, fixed, two_byte, row, wish, read_behind, behind, both, only, named, read_several, write_several, read_counted, counted}
use Rattle.codec.specs.Laws.{Exact}

-- what was read stays whatever follows, if it is read back and only that is
pub exact_from : {A : Type 0} (f : Format A) →
    ((a : A) (rest : Bytes) → f.fits a ≡ true → f.read (f.write a ++ rest) ≡ Ok (a, rest)) →
    ((bs : Bytes) (a : A) (rest : Bytes) → f.read bs ≡ Ok (a, rest) → (f.fits a ≡ true) × (bs ≡ f.write a ++ rest)) →
    ((bs more : Bytes) (e : Fault) → f.read bs ≡ Err e → (e ≡ Shape → ⊥) → f.read (bs ++ more) ≡ Err e) → Exact f
exact_from f back just told =
    record {
      back = back;
      only = just;
      kept =
          λ bs more a rest e.
          let (fits, same) = just bs a rest e in
          ap (λ (b : Bytes). f.read (b ++ more)) same ∙ (ap f.read (append_assoc (f.write a) rest more) ∙ back a (rest ++ more) fits);
      told = told;
    }

-- ---- the smallest formats

pub fixed_join : (n : ℕ) (a rest : Bytes) → length a ≡ n → (fixed n).read (a ++ rest) ≡ Ok (a, rest)
unfolding fixed
fixed_join n a rest h =
    cond-false (ltb (length (a ++ rest)) n) (Err Shape) (Ok (take n (a ++ rest), drop n (a ++ rest))) (le-ltb (length (a ++ rest)) n (omega (arith, length-append a rest))) ∙
    λ i. Ok (take_at a rest n h i, drop_at a rest n h i)

pub fixed_exact : (n : ℕ) → Exact (fixed n)
unfolding fixed
fixed_exact n =
    exact_from (fixed n) (λ a rest h. fixed_join n a rest (eqb-true (length a) n h))
    (λ bs a rest e. just bs a rest (chosen (ltb (length bs) n) (Err Shape) (Ok (take n bs, drop n bs)) (Ok (a, rest)) e))
    (λ bs more f e ne. short bs more f ne (chosen (ltb (length bs) n) (Err Shape) (Ok (take n bs, drop n bs)) (Err f) e))
  where
    just : (bs a rest : Bytes) → ((ltb (length bs) n ≡ true) × (◌≡◌ {A = Result (Bytes × Bytes) Fault} (Err Shape) (Ok (a, rest)))) ⊎ ((ltb (length bs) n ≡ false) × (◌≡◌ {A = Result (Bytes × Bytes) Fault} (Ok (take n bs, drop n bs)) (Ok (a, rest)))) →
        (eqb (length a) n ≡ true) × (bs ≡ a ++ rest)
    just bs a rest (inl (h, q)) = contradiction (cc)
    just bs a rest (inr (h, q)) =
        let (front, back) = pair_same (take n bs) a (drop n bs) rest q in
        (eq-eqb (length a) n (omega (arith, ltb-false (length bs) n h, length-take n bs, ap length front)), sym (take-append-drop n bs) ∙ λ i. front i ++ back i)

    short : (bs more : Bytes) (f : Fault) → (f ≡ Shape → ⊥) → ((ltb (length bs) n ≡ true) × (◌≡◌ {A = Result (Bytes × Bytes) Fault} (Err Shape) (Err f))) ⊎ ((ltb (length bs) n ≡ false) × (◌≡◌ {A = Result (Bytes × Bytes) Fault} (Ok (take n bs, drop n bs)) (Err f))) →
        (fixed n).read (bs ++ more) ≡ Err f
    short bs more f ne (inl (h, q)) = absurd (ne (cc))
    short bs more f ne (inr (h, q)) = contradiction (cc)

pub two_byte_join : (n : ℕ) (rest : Bytes) → two_byte.read (two_bytes n ++ rest) ≡ Ok (n, rest)
unfolding two_byte
two_byte_join n rest =
    ap (λ (k : ℕ). cond (same_bytes (two_bytes n ++ rest) (two_bytes k ++ rest)) (Ok (k, rest)) (Err Shape)) (two_back n) ∙
    cond-true (same_bytes (two_bytes n ++ rest) (two_bytes n ++ rest)) (Ok (n, rest)) (Err Shape) ((same_bytes_lem (two_bytes n ++ rest) (two_bytes n ++ rest)).1 refl)

pub two_byte_exact : Exact two_byte
unfolding two_byte
two_byte_exact =
    exact_from two_byte (λ n rest h. two_byte_join n rest)
    (λ bs n rest e. just bs n rest (chosen (same_bytes bs (two_bytes (number bs 0) ++ drop 2 bs)) (Ok (number bs 0, drop 2 bs)) (Err Shape) (Ok (n, rest)) e))
    (λ bs more f e ne. short bs more f ne (chosen (same_bytes bs (two_bytes (number bs 0) ++ drop 2 bs)) (Ok (number bs 0, drop 2 bs)) (Err Shape) (Err f) e))
  where
    just : (bs : Bytes) (n : ℕ) (rest : Bytes) →
        ((same_bytes bs (two_bytes (number bs 0) ++ drop 2 bs) ≡ true) × (◌≡◌ {A = Result (ℕ × Bytes) Fault} (Ok (number bs 0, drop 2 bs)) (Ok (n, rest)))) ⊎
        ((same_bytes bs (two_bytes (number bs 0) ++ drop 2 bs) ≡ false) × (◌≡◌ {A = Result (ℕ × Bytes) Fault} (Err Shape) (Ok (n, rest)))) → (◌≡◌ {A = Bool} true true) × (bs ≡ two_bytes n ++ rest)
    just bs n rest (inl (h, q)) =
        let (value, back) = pair_same (number bs 0) n (drop 2 bs) rest q in
        (refl, (same_bytes_lem bs (two_bytes (number bs 0) ++ drop 2 bs)).0 h ∙ λ i. two_bytes (value i) ++ back i)
    just bs n rest (inr (h, q)) = contradiction (cc)

    short : (bs more : Bytes) (f : Fault) → (f ≡ Shape → ⊥) →
        ((same_bytes bs (two_bytes (number bs 0) ++ drop 2 bs) ≡ true) × (◌≡◌ {A = Result (ℕ × Bytes) Fault} (Ok (number bs 0, drop 2 bs)) (Err f))) ⊎
        ((same_bytes bs (two_bytes (number bs 0) ++ drop 2 bs) ≡ false) × (◌≡◌ {A = Result (ℕ × Bytes) Fault} (Err Shape) (Err f))) → two_byte.read (bs ++ more) ≡ Err f
    short bs more f ne (inl (h, q)) = contradiction (cc)
    short bs more f ne (inr (h, q)) = absurd (ne (cc))

pub row_exact : (p : Place) → Exact (row p)
unfolding row
row_exact p =
    exact_from (row p)
    (λ ls rest h. let (few, good) = and_parts (leb (length ls) (most_at p)) (all (stands p) ls) h in row_back p ls rest (leb-true (length ls) (most_at p) few) good)
    (λ bs ls rest e. let (few, good, same) = row_only p bs ls rest e in (and_from (leb (length ls) (most_at p)) (all (stands p) ls) (le-leb (length ls) (most_at p) few) good, same))
    (row_told p)

pub wish_exact : Exact wish
unfolding wish
wish_exact =
    exact_from wish (λ w rest h. ap (λ (o : Option (WishView × Bytes)). ok_or o Shape) (wishes_back w rest))
    (λ bs w rest e. (refl, wishes_exact bs w rest (some (wish_of bs) w rest e)))
    (λ bs more f e ne. absurd (ne (fault (wish_of bs) f e)))
  where
    some : (o : Option (WishView × Bytes)) (w : WishView) (rest : Bytes) → ok_or o Shape ≡ Ok (w, rest) → o ≡ Some (w, rest)
    some (Some x) w rest e = cc
    some None w rest e = contradiction (cc)

    fault : (o : Option (WishView × Bytes)) (f : Fault) → ok_or o Shape ≡ Err f → f ≡ Shape
    fault (Some x) f e = contradiction (cc)
    fault None f e = cc

-- ---- formats made of others

module _ {A : Type 0} (f : Format A) (x : Exact f) where
  pub behind_exact : (k : ℕ) → Exact (behind k f)
  unfolding behind
  behind_exact k = exact_from (behind k f) (λ a rest h. cond-true (eqb k k) _ _ (eq-eqb k k refl) ∙ x.back a rest h) just told
    where
      here : (b : ℕ) (bs : Bytes) (a : A) (rest : Bytes) → ((eqb b k ≡ true) × (f.read bs ≡ Ok (a, rest))) ⊎ ((eqb b k ≡ false) × (◌≡◌ {A = Result (A × Bytes) Fault} (Err Shape) (Ok (a, rest)))) →
          (f.fits a ≡ true) × (b ∷ bs ≡ k ∷ f.write a ++ rest)
      here b bs a rest (inl (h, q)) = let (fits, same) = x.only bs a rest q in (fits, λ i. eqb-true b k h i ∷ same i)
      here b bs a rest (inr (h, q)) = contradiction (cc)

      just : (bs : Bytes) (a : A) (rest : Bytes) → read_behind k f.read bs ≡ Ok (a, rest) → (f.fits a ≡ true) × (bs ≡ k ∷ f.write a ++ rest)
      just [] a rest e = contradiction (cc)
      just (b ∷ bs) a rest e = here b bs a rest (chosen (eqb b k) (f.read bs) (Err Shape) (Ok (a, rest)) e)

      later : (b : ℕ) (bs more : Bytes) (e : Fault) → (e ≡ Shape → ⊥) → ((eqb b k ≡ true) × (f.read bs ≡ Err e)) ⊎ ((eqb b k ≡ false) × (◌≡◌ {A = Result (A × Bytes) Fault} (Err Shape) (Err e))) →
          cond (eqb b k) (f.read (bs ++ more)) (Err Shape) ≡ Err e
      later b bs more e ne (inl (h, q)) = cond-true (eqb b k) _ _ h ∙ x.told bs more e q ne
      later b bs more e ne (inr (h, q)) = absurd (ne (cc))

      told : (bs more : Bytes) (e : Fault) → read_behind k f.read bs ≡ Err e → (e ≡ Shape → ⊥) → read_behind k f.read (bs ++ more) ≡ Err e
      told [] more e q ne = absurd (ne (cc))
      told (b ∷ bs) more e q ne = later b bs more e ne (chosen (eqb b k) (f.read bs) (Err Shape) (Err e) q)

  pub only_exact : (t : A → Bool) (e : Fault) → Exact (only t e f)
  unfolding only
  only_exact t e =
      exact_from (only t e f)
      (λ a rest h. let (good, fits) = and_parts (t a) (f.fits a) h in next_on _ _ (a, rest) (x.back a rest fits) ∙ cond-true (t a) _ _ good)
      (λ bs a rest q. let (p, read, p2) = next_value (f.read bs) _ (a, rest) q in just bs p a rest read (chosen (t p.0) (Ok p) (Err e) (Ok (a, rest)) p2))
      (λ bs more g q ne. later bs more g ne (next_fault (f.read bs) _ g q))
    where
      just : (bs : Bytes) (p : A × Bytes) (a : A) (rest : Bytes) → f.read bs ≡ Ok p →
          ((t p.0 ≡ true) × (◌≡◌ {A = Result (A × Bytes) Fault} (Ok p) (Ok (a, rest)))) ⊎ ((t p.0 ≡ false) × (◌≡◌ {A = Result (A × Bytes) Fault} (Err e) (Ok (a, rest)))) →
          (t a && f.fits a ≡ true) × (bs ≡ f.write a ++ rest)
      just bs p a rest read (inl (h, q)) =
          let (value, back) = pair_same p.0 a p.1 rest q in
          let (fits, same) = x.only bs a rest (read ∙ q) in
          (and_from (t a) (f.fits a) (ap t (sym value) ∙ h) fits, same)
      just bs p a rest read (inr (h, q)) = contradiction (cc)

      later : (bs more : Bytes) (g : Fault) → (g ≡ Shape → ⊥) → (f.read bs ≡ Err g) ⊎ ((p : A × Bytes) × (f.read bs ≡ Ok p) × (cond (t p.0) (Ok p) (Err e) ≡ Err g)) →
          next (f.read (bs ++ more)) (λ a. cond (t a.0) (Ok a) (Err e)) ≡ Err g
      later bs more g ne (inl q) = next_stop _ _ g (x.told bs more g q ne)
      later bs more g ne (inr (p, q, r)) = next_on _ _ (p.0, p.1 ++ more) (x.kept bs more p.0 p.1 q) ∙ test p g more (chosen (t p.0) (Ok p) (Err e) (Err g) r)
        where
          test : (p : A × Bytes) (g : Fault) (more : Bytes) → ((t p.0 ≡ true) × (◌≡◌ {A = Result (A × Bytes) Fault} (Ok p) (Err g))) ⊎ ((t p.0 ≡ false) × (◌≡◌ {A = Result (A × Bytes) Fault} (Err e) (Err g))) →
              cond {A = Result (A × Bytes) Fault} (t p.0) (Ok (p.0, p.1 ++ more)) (Err e) ≡ Err g
          test p g more (inl (h, q)) = contradiction (cc)
          test p g more (inr (h, q)) = cond-false (t p.0) _ _ h ∙ q

  pub named_exact : {B : Type 0} (to : A → B) (from : B → A) → ((a : A) → from (to a) ≡ a) → ((b : B) → to (from b) ≡ b) → Exact (named to from f)
  unfolding named
  named_exact {B} to from there back-again =
      exact_from (named to from f)
      (λ b rest h. next_on _ _ (from b, rest) (x.back (from b) rest h) ∙ λ i. Ok (back-again b i, rest))
      (λ bs b rest q.
      let (p, read, p2) = next_value (f.read bs) _ (b, rest) q in
      let (value, left) = pair_same (to p.0) b p.1 rest p2 in
      let is : p.0 ≡ from b = sym (there p.0) ∙ ap from value in
      let (fits, same) = x.only bs p.0 p.1 read in
      (ap f.fits (sym is) ∙ fits, same ∙ λ i. f.write (is i) ++ left i))
      (λ bs more g q ne. later bs more g ne (next_fault (f.read bs) _ g q))
    where
      later : (bs more : Bytes) (g : Fault) → (g ≡ Shape → ⊥) → (f.read bs ≡ Err g) ⊎ ((p : A × Bytes) × (f.read bs ≡ Ok p) × (◌≡◌ {A = Result (B × Bytes) Fault} (Ok (to p.0, p.1)) (Err g))) →
          next {B = B × Bytes} (f.read (bs ++ more)) (λ a. Ok (to a.0, a.1)) ≡ Err g
      later bs more g ne (inl q) = next_stop _ _ g (x.told bs more g q ne)
      later bs more g ne (inr (p, q, r)) = contradiction (cc)

  -- so many, one after the other
  several_back : (xs : List A) (rest : Bytes) → all f.fits xs ≡ true → read_several f.read (length xs) (write_several f.write xs ++ rest) ≡ Ok (xs, rest)
  unfolding read_several write_several all
  several_back [] rest h = refl
  several_back (a ∷ xs) rest h =
      let (here, below) = and_parts (f.fits a) (all f.fits xs) h in
      let after = write_several f.write xs ++ rest in
      next_on _ _ (a, after) (ap f.read (append_assoc (f.write a) (write_several f.write xs) rest) ∙ x.back a after here) ∙ next_on _ _ (xs, rest) (several_back xs rest below)

  several_only : (n : ℕ) (bs : Bytes) (xs : List A) (rest : Bytes) → read_several f.read n bs ≡ Ok (xs, rest) → (length xs ≡ n) × (all f.fits xs ≡ true) × (bs ≡ write_several f.write xs ++ rest)
  unfolding read_several write_several all
  several_only zero bs xs rest e =
      let (none, left) = pair_same [] xs bs rest e in
      (ap length (sym none), ap (all f.fits) (sym none), left ∙ ap (λ (l : List A). write_several f.write l ++ rest) none)
  several_only (suc n) bs xs rest e =
      let (a, read, e1) = next_value (f.read bs) _ (xs, rest) e in
      let (more, below, e2) = next_value (read_several f.read n a.1) _ (xs, rest) e1 in
      let (are, left) = pair_same (a.0 ∷ more.0) xs more.1 rest e2 in
      let (fits, same) = x.only bs a.0 a.1 read in
      let (many, good, bytes) = several_only n a.1 more.0 more.1 below in (
        ap length (sym are) ∙ ap suc many,
        ap (all f.fits) (sym are) ∙ and_from (f.fits a.0) (all f.fits more.0) fits good,
        same ∙
            (ap (λ (b : Bytes). f.write a.0 ++ b) bytes ∙
            (sym (append_assoc (f.write a.0) (write_several f.write more.0) more.1) ∙ λ i. write_several f.write (are i) ++ left i)),
      )

  several_told : (n : ℕ) (bs more : Bytes) (e : Fault) → read_several f.read n bs ≡ Err e → (e ≡ Shape → ⊥) → read_several f.read n (bs ++ more) ≡ Err e
  unfolding read_several
  several_told zero bs more e q ne = contradiction (cc)
  several_told (suc n) bs more e q ne = first (λ after r. several_told n after more e r ne) (next_fault (f.read bs) _ e q)
    where
      rest : (a : A) (after : Bytes) → (read_several f.read n after ≡ Err e → read_several f.read n (after ++ more) ≡ Err e) →
          (read_several f.read n after ≡ Err e) ⊎ ((m : List A × Bytes) × (read_several f.read n after ≡ Ok m) × (◌≡◌ {A = Result (List A × Bytes) Fault} (Ok (a ∷ m.0, m.1)) (Err e))) →
          next {B = List A × Bytes} (read_several f.read n (after ++ more)) (λ m. Ok (a ∷ m.0, m.1)) ≡ Err e
      rest a after on (inl r) = next_stop _ _ e (on r)
      rest a after on (inr (m, r, s)) = contradiction (cc)

      first : ((after : Bytes) → read_several f.read n after ≡ Err e → read_several f.read n (after ++ more) ≡ Err e) →
          (f.read bs ≡ Err e) ⊎ ((a : A × Bytes) × (f.read bs ≡ Ok a) × (next {B = List A × Bytes} (read_several f.read n a.1) (λ m. Ok (a.0 ∷ m.0, m.1)) ≡ Err e)) →
          next (f.read (bs ++ more)) (λ a. next {B = List A × Bytes} (read_several f.read n a.1) (λ m. Ok (a.0 ∷ m.0, m.1))) ≡ Err e
      first on (inl r) = next_stop _ _ e (x.told bs more e r ne)
      first on (inr (a, r, s)) =
          next_on _ _ (a.0, a.1 ++ more) (x.kept bs more a.0 a.1 r) ∙ rest a.0 a.1 (on a.1) (next_fault (read_several f.read n a.1) _ e s)

  pub counted_exact : (most : ℕ) → Exact (counted most f)
  unfolding counted
  counted_exact most =
      exact_from (counted most f)
      (λ xs rest h.
      let (few, good) = and_parts (leb (length xs) most) (all f.fits xs) h in
      cond-false (ltb most (length xs)) _ _ (le-ltb most (length xs) (leb-true (length xs) most few)) ∙ several_back xs rest good)
      just told
    where
      here : (n : ℕ) (bs : Bytes) (xs : List A) (rest : Bytes) → ((ltb most n ≡ true) × (◌≡◌ {A = Result (List A × Bytes) Fault} (Err TooMany) (Ok (xs, rest)))) ⊎ ((ltb most n ≡ false) × (read_several f.read n bs ≡ Ok (xs, rest))) →
          (leb (length xs) most && all f.fits xs ≡ true) × (n ∷ bs ≡ length xs ∷ write_several f.write xs ++ rest)
      here n bs xs rest (inl (h, q)) = contradiction (cc)
      here n bs xs rest (inr (h, q)) =
          let (many, good, same) = several_only n bs xs rest q in
          (and_from (leb (length xs) most) (all f.fits xs) (le-leb (length xs) most (omega (arith, ltb-false most n h))) good, λ i. sym many i ∷ same i)

      just : (bs : Bytes) (xs : List A) (rest : Bytes) → read_counted most f.read bs ≡ Ok (xs, rest) → (leb (length xs) most && all f.fits xs ≡ true) × (bs ≡ length xs ∷ write_several f.write xs ++ rest)
      just [] xs rest e = contradiction (cc)
      just (n ∷ bs) xs rest e = here n bs xs rest (chosen (ltb most n) (Err TooMany) (read_several f.read n bs) (Ok (xs, rest)) e)

      later : (n : ℕ) (bs more : Bytes) (e : Fault) → (e ≡ Shape → ⊥) → ((ltb most n ≡ true) × (◌≡◌ {A = Result (List A × Bytes) Fault} (Err TooMany) (Err e))) ⊎ ((ltb most n ≡ false) × (read_several f.read n bs ≡ Err e)) →
          cond (ltb most n) (Err TooMany) (read_several f.read n (bs ++ more)) ≡ Err e
      later n bs more e ne (inl (h, q)) = cond-true (ltb most n) _ _ h ∙ q
      later n bs more e ne (inr (h, q)) = cond-false (ltb most n) _ _ h ∙ several_told n bs more e q ne

      told : (bs more : Bytes) (e : Fault) → read_counted most f.read bs ≡ Err e → (e ≡ Shape → ⊥) → read_counted most f.read (bs ++ more) ≡ Err e
      told [] more e q ne = absurd (ne (cc))
      told (n ∷ bs) more e q ne = later n bs more e ne (chosen (ltb most n) (Err TooMany) (read_several f.read n bs) (Err e) q)

module _ {A B : Type 0} (f : Format A) (g : Format B) (x : Exact f) (y : Exact g) where
  pub both_exact : Exact (both f g)
  unfolding both
  both_exact =
      exact_from (both f g)
      (λ p rest h.
      let (one, two) = and_parts (f.fits p.0) (g.fits p.1) h in
      let after = g.write p.1 ++ rest in
      next_on _ _ (p.0, after) (ap f.read (append_assoc (f.write p.0) (g.write p.1) rest) ∙ x.back p.0 after one) ∙ next_on _ _ (p.1, rest) (y.back p.1 rest two))
      (λ bs p rest e.
      let (a, read, e1) = next_value (f.read bs) _ (p, rest) e in
      let (b, then, e2) = next_value (g.read a.1) _ (p, rest) e1 in
      let (value, left) = pair_same (a.0, b.0) p b.1 rest e2 in
      let (one, same) = x.only bs a.0 a.1 read in
      let (two, bytes) = y.only a.1 b.0 b.1 then in (
        ap (λ (q : A × B). f.fits q.0 && g.fits q.1) (sym value) ∙ and_from (f.fits a.0) (g.fits b.0) one two,
        same ∙
            (ap (λ (c : Bytes). f.write a.0 ++ c) bytes ∙
            (sym (append_assoc (f.write a.0) (g.write b.0) b.1) ∙ λ i. (f.write (value i).0 ++ g.write (value i).1) ++ left i)),
      ))
      (λ bs more e q ne. first bs more e ne (next_fault (f.read bs) _ e q))
    where
      second : (a : A) (after more : Bytes) (e : Fault) → (e ≡ Shape → ⊥) →
          (g.read after ≡ Err e) ⊎ ((b : B × Bytes) × (g.read after ≡ Ok b) × (◌≡◌ {A = Result ((A × B) × Bytes) Fault} (Ok ((a, b.0), b.1)) (Err e))) →
          next {B = (A × B) × Bytes} (g.read (after ++ more)) (λ b. Ok ((a, b.0), b.1)) ≡ Err e
      second a after more e ne (inl q) = next_stop _ _ e (y.told after more e q ne)
      second a after more e ne (inr (b, q, r)) = contradiction (cc)

      first : (bs more : Bytes) (e : Fault) → (e ≡ Shape → ⊥) →
          (f.read bs ≡ Err e) ⊎ ((a : A × Bytes) × (f.read bs ≡ Ok a) × (next {B = (A × B) × Bytes} (g.read a.1) (λ b. Ok ((a.0, b.0), b.1)) ≡ Err e)) →
          next (f.read (bs ++ more)) (λ a. next {B = (A × B) × Bytes} (g.read a.1) (λ b. Ok ((a.0, b.0), b.1))) ≡ Err e
      first bs more e ne (inl q) = next_stop _ _ e (x.told bs more e q ne)
      first bs more e ne (inr (a, q, r)) =
          next_on _ _ (a.0, a.1 ++ more) (x.kept bs more a.0 a.1 q) ∙ second a.0 a.1 more e ne (next_fault (g.read a.1) _ e r)
