-- Numbers in decimal, with zeros in front or none. Assumes nothing.
use Rattle.std.proofs.Common.{◌≡◌, ℕ, zero, suc, ◌+◌, ◌^◌, ◌<◌, ◌≤◌, Bool, true, false, cond, ◌&&◌, eqb, leb, List, [], ◌∷◌, ◌++◌, length, get_or, replicate, Ok, Err, Result, decimal, sym, refl, ap, ◌∙◌, subst, ⊎_elim, arith, length-append}
use Rattle.std.specs.Str.Parse.{digits_value, ParsesUnsigned}
use Rattle.std.specs.Int.{IsInRange}
use Rattle.std.specs.Result.{OkIff, result_map_both}
use Rattle.std.specs.Char.{is_ascii_digit}
use Rattle.std.specs.List.{list_all}
use Rattle.std.specs.Str.{all_ascii_digits}
use Rattle.std.proofs.lemmas.Fmt.{digits_decimal, digits_value-decimal, decimal_nonempty, decimal-digits_value}
use Rattle.std.proofs.ByRecursion.{All-from_get_or}
use Rattle.std.proofs.lemmas.Str.Parse.{IsNumeralModel, numerals_by_value, tells_all_ascii_digits, parse_digits, digit_at}
use Rattle.std.proofs.lemmas.Bool.{and_parts, and_from, cond-true, cond-false, le-leb, lt-leb, leb-true, leb-false, lt-ltb, ltb-true, cases_eq, cases_lt}
use Rattle.std.proofs.lemmas.Bool.Decides.{nat_tests}
use Rattle.texts.specs.declared.Cause.{Cause}
use Rattle.texts.specs.declared.Cause.TheVariants.{NotANumber, TooLarge}
use Rattle.texts.specs.Numerals.{Writes, is_numeral, number_in, number_of, Holds}
use Rattle.texts.specs.Results.{and_then}
use Rattle.texts.proofs.Cuts.{Free}
use Rattle.texts.proofs.Steps.{cond_ok}

pub own : IsNumeralModel (λ ds. all_ascii_digits ds ≡ true) (digits_value 10)
own = numerals_by_value _ tells_all_ascii_digits

digits_listed : (w : List ℕ) → list_all is_ascii_digit w ≡ all_ascii_digits w
digits_listed [] = refl
digits_listed (b ∷ w) = ap (λ r. is_ascii_digit b && r) (digits_listed w)

-- what `all` says of a word that is not empty
pub all_is : (w : List ℕ) (r : Bool) → r ≡ list_all is_ascii_digit w → false ≡ eqb (length w) 0 → r ≡ is_numeral w
all_is w r e some = e ∙ digits_listed w ∙ grind (arith, nat_tests)

-- digits have no byte of another sort
pub digits_free : (t : ℕ → Bool) → ((b : ℕ) → IsInRange 48 57 b → t b ≡ false) → (w : List ℕ) → all_ascii_digits w ≡ true → Free t w
digits_free t out w h = All-from_get_or (λ b. t b ≡ false) w 0 (λ k l. out (get_or w k 0) (digit_at w k (own.to w h) l))

-- ---- what `parse` answers

module _ {N : Type 0} (value : ℕ → N) (most : ℕ) (w : List ℕ) where
  pub number_none : is_numeral w ≡ false → Err NotANumber ≡ number_in most value w
  unfolding number_in
  number_none e = sym (cond-false (is_numeral w) _ _ e)

  inner : is_numeral w ≡ true → number_in most value w ≡ cond (leb (digits_value 10 w) most) (Ok (value (digits_value 10 w))) (Err TooLarge)
  unfolding number_in
  inner e = cond-true (is_numeral w) _ _ e

module _ (E : Type 0) (w : List ℕ) (e : is_numeral w ≡ true) where
  pub number_read : (n : ℕ) → ParsesUnsigned {E = E} 32 10 w (Ok n) → Ok n ≡ number_of 4294967295 w
  number_read n h =
      let p = parse_digits own {E = E} 32 w (Ok n) h (and_parts (all_ascii_digits w) _ e).0 in
      ap Ok p.1 ∙ sym (inner (λ n. n) 4294967295 w e ∙ cond-true (leb (digits_value 10 w) 4294967295) _ _ (le-leb _ _ (omega (arith, p.0.1))))

  pub number_large : (d : E) → ParsesUnsigned {E = E} 32 10 w (Err d) → Err TooLarge ≡ number_of 4294967295 w
  number_large d h =
      let some : 0 < length w = ltb-true 0 (length w) (and_parts (all_ascii_digits w) _ e).1 in
      let out = parse_digits own {E = E} 32 w (Err d) h (and_parts (all_ascii_digits w) _ e).0 in
      sym (inner (λ n. n) 4294967295 w e ∙ cond-false (leb (digits_value 10 w) 4294967295) _ _ (lt-leb _ _ (⊎_elim (λ l. absurd (out (some, omega arith))) (λ l. omega arith) (cases_lt (digits_value 10 w) 4294967296))))

pub parsed : {E : Type 0} (w : List ℕ) → is_numeral w ≡ true → (r : Result ℕ E) → ParsesUnsigned 32 10 w r → result_map_both (λ n. n) (λ d. TooLarge) r ≡ number_of 4294967295 w
parsed {E = E} w e (Ok n) h = number_read E w e n h
parsed {E = E} w e (Err d) h = number_large E w e d h

-- a number up to a bound is one up to a higher bound that is small
module _ {N : Type 0} (value : ℕ → N) (low high : ℕ) (less : low ≤ high) (w : List ℕ) where
  pub narrowed : number_in low value w ≡ and_then (number_of high w) (λ n. cond (leb n low) (Ok (value n)) (Err TooLarge))
  unfolding number_in
  narrowed = by (is_numeral w) (leb (digits_value 10 w) high) refl
    where
      by : (a b : Bool) → leb (digits_value 10 w) high ≡ b
          → cond a (cond (leb (digits_value 10 w) low) (Ok (value (digits_value 10 w))) (Err TooLarge)) (Err NotANumber) ≡ and_then (cond a (cond b (Ok (digits_value 10 w)) (Err TooLarge)) (Err NotANumber)) (λ n. cond (leb n low) (Ok (value n)) (Err TooLarge))
      by false b e = refl
      by true true e = refl
      by true false e = cond-false (leb (digits_value 10 w) low) _ _ (lt-leb _ _ (omega (arith, less, leb-false (digits_value 10 w) high e)))

  pub small_exit : (c : Cause) → Err c ≡ number_of high w → Err c ≡ number_in low value w
  small_exit c e = sym (narrowed ∙ ap (λ r. and_then r (λ n. cond (leb n low) (Ok (value n)) (Err TooLarge))) (sym e))

  module _ (n : ℕ) (e : Ok n ≡ number_of high w) where
    small_is : number_in low value w ≡ cond (leb n low) (Ok (value n)) (Err TooLarge)
    small_is = narrowed ∙ ap (λ r. and_then r (λ n. cond (leb n low) (Ok (value n)) (Err TooLarge))) (sym e)

    pub small_read : (m : N) → n < low + 1 → m ≡ value n → Ok m ≡ number_in low value w
    small_read m l i = ap Ok i ∙ sym (small_is ∙ cond-true (leb n low) _ _ (le-leb n low (omega arith)))

    pub small_large : (n < low + 1 → ⊥) → Err TooLarge ≡ number_in low value w
    small_large h = sym (small_is ∙ cond-false (leb n low) _ _ (lt-leb n low (⊎_elim (λ l. absurd (h l)) (λ l. omega arith) (cases_lt n (low + 1)))))

-- a number of a type of 32 bits at most
module _ {N E : Type 0} {value : ℕ → N} {most : ℕ} {gives : ℕ → Result N E → Type 0} (holds : Holds gives most value) (w : List ℕ) where
  pub not_wide : (c : Cause) → Err c ≡ number_of 4294967295 w → Err c ≡ number_in most value w
  not_wide = small_exit value most 4294967295 holds.wide w

  pub converted : (n : ℕ) → Ok n ≡ number_of 4294967295 w → (r : Result N E) → gives n r → result_map_both (λ x. x) (λ d. TooLarge) r ≡ number_in most value w
  converted n e r g = by r (holds.each n r g)
    where
      by : (r : Result N E) → OkIff r (n < most + 1) (value n) → result_map_both (λ x. x) (λ d. TooLarge) r ≡ number_in most value w
      by (Ok x) h = small_read value most 4294967295 holds.wide w n e x h.0 h.1
      by (Err d) h = small_large value most 4294967295 holds.wide w n e h

-- ---- zeros in front count for nothing

zeros_digits : (k : ℕ) (ds : List ℕ) → all_ascii_digits (replicate k 48 ++ ds) ≡ all_ascii_digits ds
zeros_digits zero ds = refl
zeros_digits (suc k) ds = zeros_digits k ds

zeros_value : (k : ℕ) (ds : List ℕ) → digits_value 10 (replicate k 48 ++ ds) ≡ digits_value 10 ds
zeros_value zero ds = refl
zeros_value (suc k) ds = zeros_value k ds

module _ (w : List ℕ) (n : ℕ) (small : n < 2 ^ 64) (h : Writes w n) where
  pub writes_digits : all_ascii_digits w ≡ true
  writes_digits = ap all_ascii_digits h.1 ∙ zeros_digits h.0 (decimal n) ∙ digits_decimal own n small

  pub writes_some : 0 < length w
  writes_some = omega (arith, ap length h.1, length-append (replicate h.0 48) (decimal n), decimal_nonempty n small)

  pub number_takes : (most : ℕ) → n ≤ most → number_of most w ≡ Ok n
  number_takes most le =
      let is : digits_value 10 w ≡ n = ap (digits_value 10) h.1 ∙ zeros_value h.0 (decimal n) ∙ digits_value-decimal own n small in
      inner (λ n. n) most w (and_from (all_ascii_digits w) _ writes_digits (lt-ltb 0 (length w) writes_some)) ∙ cond-true (leb (digits_value 10 w) most) _ _ (le-leb _ _ (omega arith)) ∙ ap Ok is

-- digits are what is printed of their number, after some zeros
zero_front : (b : ℕ) (w : List ℕ) → b ≡ 48 → Writes w (digits_value 10 w) → Writes (b ∷ w) (digits_value 10 (b ∷ w))
zero_front b w e r = subst (λ x. Writes (x ∷ w) (digits_value 10 (x ∷ w))) (sym e) (suc r.0, ap (λ l. 48 ∷ l) r.1)

stripped : (w : List ℕ) → all_ascii_digits w ≡ true → 0 < length w → digits_value 10 w < 2 ^ 64 → Writes w (digits_value 10 w)
stripped [] h some small = absurd (omega arith)
stripped (b ∷ []) h some small = (0, sym (decimal-digits_value own (b ∷ []) h some (λ z. refl) small))
stripped (b ∷ d ∷ w) h some small =
    ⊎_elim
    (λ z. zero_front b (d ∷ w) z (stripped (d ∷ w) (and_parts (is_ascii_digit b) _ h).1 (omega arith) (subst (λ x. digits_value 10 (x ∷ d ∷ w) < 2 ^ 64) z small)))
    (λ z. (0, sym (decimal-digits_value own (b ∷ d ∷ w) h some (λ e. absurd (z e)) small)))
    (cases_eq b 48)

pub number_told : (most : ℕ) (w : List ℕ) (n : ℕ) → most < 2 ^ 64 → number_of most w ≡ Ok n → Writes w n × (n ≤ most)
unfolding number_in
number_told most w n small e =
    let p = cond_ok (is_numeral w) _ NotANumber n e in
    let q = cond_ok (leb (digits_value 10 w) most) (Ok (digits_value 10 w)) TooLarge n p.1 in
    let is : digits_value 10 w ≡ n = cc in
    let low : digits_value 10 w ≤ most = leb-true (digits_value 10 w) most q.0 in
    let d = and_parts (all_ascii_digits w) _ p.0 in
    (subst (Writes w) is (stripped w d.0 (ltb-true 0 (length w) d.1) (omega arith)), omega arith)
