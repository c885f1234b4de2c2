-- Keys of different numbers are no more than there are numbers. Assumes nothing.
use Rattle.std.proofs.Common.{◌≡◌, ℕ, suc, ◌<◌, ◌≤◌, true, false, not, eqb, leb, List, [], ◌∷◌, map, length, refl, ⊎_elim, arith}
use Rattle.std.specs.List.{AllByRecursion, IsDistinct, list_any}
use Rattle.std.proofs.lemmas.Bool.{not-true, and_parts, and_from, or_cases, eqb-true, leb-true, le-leb, false≢true}
use Rattle.std.proofs.lemmas.List.{length-map}
use Rattle.std.proofs.lemmas.Map.Steps.{length-le_from_distinct_below}
use Rattle.narrow.specs.Rows.{all}
use Rattle.parts.specs.Limits.{last_key}
use Rattle.hmac.specs.declared.Mac.{Mac}
use Rattle.parts.specs.declared.KeyNumber.{KeyNumber}
use Rattle.book.specs.Keys.{KeyView, taken, apart}
use Rattle.book.specs.Entries.{keys_view}
use Rattle.book.proofs.Apart.{free_parts, other_way}

-- the numbers of keys, in their order
abbrev numbers : List KeyView → List ℕ
numbers ks = map (λ k. k.0) ks

-- a number that is free is none of them
free_apart : (ks : List KeyView) (n : ℕ) → taken ks n ≡ false → AllByRecursion (λ m. eqb n m ≡ false) (numbers ks)
free_apart [] n e = tt
free_apart (k ∷ ks) n e = let (here, below) = free_parts k ks n e in (other_way k.0 n here, free_apart ks n below)

distinct : (ks : List KeyView) → apart ks ≡ true → IsDistinct eqb (numbers ks)
unfolding apart IsDistinct
distinct [] a = tt
distinct (k ∷ ks) a = let (here, below) = and_parts (not (taken ks k.0)) (apart ks) a in (free_apart ks k.0 (not-true (taken ks k.0) here), distinct ks below)

small : (last : ℕ) (ks : List KeyView) → all (λ k. leb k.0 last) ks ≡ true → (n : ℕ) → list_any (eqb n) (numbers ks) ≡ true → n < suc last
unfolding all
small last [] h n e = absurd (false≢true e)
small last (k ∷ ks) h n e =
    let (here, below) = and_parts (leb k.0 last) (all (λ k. leb k.0 last) ks) h in
    ⊎_elim (λ same. omega (arith, eqb-true n k.0 same, leb-true k.0 last here)) (small last ks below n) (or_cases (eqb n k.0) (list_any (eqb n) (numbers ks)) e)

-- numbers up to 4095 make at most 4096 keys
pub few_keys : (ks : List KeyView) → apart ks ≡ true → all (λ k. leb k.0 last_key) ks ≡ true → length ks ≤ 4096
few_keys ks a h = omega (arith, length-le_from_distinct_below (numbers ks) 4096 (distinct ks a) (small last_key ks h), length-map ks (λ (k : KeyView). k.0))

-- a key of the code has such a number
pub known_keys : (es : List (KeyNumber × Mac)) → all (λ k. leb k.0 last_key) (keys_view es) ≡ true
unfolding all
known_keys [] = refl
known_keys (e ∷ es) = and_from (leb e.0.number last_key) (all (λ k. leb k.0 last_key) (keys_view es)) (le-leb e.0.number last_key e.0.known) (known_keys es)
