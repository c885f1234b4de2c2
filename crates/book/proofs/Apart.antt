-- Keys by number, of which no two have the same. Assumes nothing.
use Rattle.std.proofs.Common.{◌≡◌, ℕ, zero, suc, ◌<◌, Bool, true, false, cond, not, eqb, List, [], ◌∷◌, ◌++◌, length, get_or, is_some, Some, sym, refl, ap, ◌∙◌, arith}
use Rattle.std.proofs.lemmas.Bool.{both_ways, not-true, not_from_false, and_parts, and_from, cond-true, cond-false, eqb-true, eqb-false, eq-eqb, ne_eqb}
use Rattle.narrow.proofs.Rows.{contradiction}
use Rattle.book.specs.Keys.{KeyView, secret_in, taken, apart}

-- a number that no key has: neither the first nor one behind it
pub free_parts : (j : KeyView) (ks : List KeyView) (n : ℕ) → taken (j ∷ ks) n ≡ false → (eqb j.0 n ≡ false) × (taken ks n ≡ false)
unfolding secret_in
free_parts j ks n = by (eqb j.0 n)
  where
    by : (b : Bool) → is_some (cond b (Some j.1) (secret_in ks n)) ≡ false → (b ≡ false) × (taken ks n ≡ false)
    by true e = contradiction (cc)
    by false e = (refl, e)

free_from : (j : KeyView) (ks : List KeyView) (n : ℕ) → eqb j.0 n ≡ false → taken ks n ≡ false → taken (j ∷ ks) n ≡ false
unfolding secret_in
free_from j ks n ne e = ap is_some (cond-false (eqb j.0 n) (Some j.1) (secret_in ks n) ne) ∙ e

free_inside : (acc : List KeyView) (k : KeyView) (ks : List KeyView) (n : ℕ) → taken (acc ++ k ∷ ks) n ≡ false → eqb k.0 n ≡ false
free_inside [] k ks n e = (free_parts k ks n e).0
free_inside (j ∷ acc) k ks n e = free_inside acc k ks n (free_parts j (acc ++ k ∷ ks) n e).1

pub eqb_flip : (a b : ℕ) → eqb a b ≡ eqb b a
eqb_flip a b = by (eqb a b) refl
  where
    by : (c : Bool) → eqb a b ≡ c → eqb a b ≡ eqb b a
    by true e = e ∙ sym (eq-eqb b a (sym (eqb-true a b e)))
    by false e = e ∙ sym (ne_eqb b a (λ q. eqb-false a b e (sym q)))

pub other_way : (m n : ℕ) → eqb m n ≡ false → eqb n m ≡ false
other_way m n e = eqb_flip n m ∙ e

-- one key more, whose number is free
pub secret_push : (ks : List KeyView) (k : KeyView) (n : ℕ) → taken ks k.0 ≡ false → secret_in (ks ++ k ∷ []) n ≡ cond (eqb k.0 n) (Some k.1) (secret_in ks n)
unfolding secret_in
secret_push [] k n free = refl
secret_push (j ∷ ks) k n free =
    let (apart-here, below) = free_parts j ks k.0 free in
    by (eqb j.0 n) refl (eqb k.0 n) refl apart-here (secret_push ks k n below)
  where
    by : (a : Bool) → eqb j.0 n ≡ a → (b : Bool) → eqb k.0 n ≡ b → eqb j.0 k.0 ≡ false → secret_in (ks ++ k ∷ []) n ≡ cond (eqb k.0 n) (Some k.1) (secret_in ks n) →
        cond a (Some j.1) (secret_in (ks ++ k ∷ []) n) ≡ cond b (Some k.1) (cond a (Some j.1) (secret_in ks n))
    by true p true q ne below = absurd (eqb-false j.0 k.0 ne (eqb-true j.0 n p ∙ sym (eqb-true k.0 n q)))
    by true p false q ne below = refl
    by false p b q ne below = below ∙ ap (λ (t : Bool). cond t (Some k.1) (secret_in ks n)) q

pub apart_push : (ks : List KeyView) (k : KeyView) → apart ks ≡ true → taken ks k.0 ≡ false → apart (ks ++ k ∷ []) ≡ true
unfolding apart secret_in
apart_push [] k a free = refl
apart_push (j ∷ ks) k a free =
    let (here, below) = and_parts (not (taken ks j.0)) (apart ks) a in
    let (ne, left) = free_parts j ks k.0 free in
    let same : taken (ks ++ k ∷ []) j.0 ≡ taken ks j.0 =
    ap is_some (secret_push ks k j.0 left ∙ cond-false (eqb k.0 j.0) (Some k.1) (secret_in ks j.0) (other_way j.0 k.0 ne)) in
    and_from (not (taken (ks ++ k ∷ []) j.0)) (apart (ks ++ k ∷ [])) (not_from_false (taken (ks ++ k ∷ []) j.0) (same ∙ not-true (taken ks j.0) here)) (apart_push ks k below left)

-- a key's number is free among those before it
pub free_before : (acc : List KeyView) (k : KeyView) (ks : List KeyView) → apart (acc ++ k ∷ ks) ≡ true → taken acc k.0 ≡ false
unfolding apart secret_in
free_before [] k ks a = refl
free_before (j ∷ acc) k ks a =
    let (here, below) = and_parts (not (taken (acc ++ k ∷ ks) j.0)) (apart (acc ++ k ∷ ks)) a in
    free_from j acc k.0 (other_way k.0 j.0 (free_inside acc k ks j.0 (not-true (taken (acc ++ k ∷ ks) j.0) here))) (free_before acc k ks below)

-- by places
taken_at : (ks : List KeyView) (i : ℕ) (d : KeyView) → i < length ks → taken ks (get_or ks i d).0 ≡ true
unfolding secret_in
taken_at [] i d h = absurd (omega arith)
taken_at (j ∷ ks) zero d h = ap is_some (cond-true (eqb j.0 j.0) (Some j.1) (secret_in ks j.0) (eq-eqb j.0 j.0 refl))
taken_at (j ∷ ks) (suc i) d h = by (eqb j.0 (get_or ks i d).0) (taken_at ks i d (omega arith))
  where
    by : (b : Bool) → taken ks (get_or ks i d).0 ≡ true → is_some (cond b (Some j.1) (secret_in ks (get_or ks i d).0)) ≡ true
    by true e = refl
    by false e = e

-- the first key has another number than those behind it
first_apart : (j : KeyView) (ks : List KeyView) (i : ℕ) (d : KeyView) → apart (j ∷ ks) ≡ true → i < length ks → j.0 ≡ (get_or ks i d).0 → ⊥
unfolding apart
first_apart j ks i d a h e =
    both_ways (taken ks j.0) (not-true (taken ks j.0) (and_parts (not (taken ks j.0)) (apart ks) a).0) (ap (taken ks) e ∙ taken_at ks i d h)

behind_first : (j : KeyView) (ks : List KeyView) → apart (j ∷ ks) ≡ true → apart ks ≡ true
unfolding apart
behind_first j ks a = (and_parts (not (taken ks j.0)) (apart ks) a).1

pub apart_at : (ks : List KeyView) (i j : ℕ) (d : KeyView) → apart ks ≡ true → i < j → j < length ks → (get_or ks i d).0 ≡ (get_or ks j d).0 → ⊥
apart_at [] i j d a h l = absurd (omega arith)
apart_at (k ∷ ks) i zero d a h l = absurd (omega arith)
apart_at (k ∷ ks) zero (suc j) d a h l = first_apart k ks j d a (omega arith)
apart_at (k ∷ ks) (suc i) (suc j) d a h l = apart_at ks i j d (behind_first k ks a) (omega arith) (omega arith)

pub secret_at : (ks : List KeyView) (i : ℕ) (d : KeyView) → apart ks ≡ true → i < length ks → secret_in ks (get_or ks i d).0 ≡ Some (get_or ks i d).1
unfolding secret_in
secret_at [] i d a h = absurd (omega arith)
secret_at (k ∷ ks) zero d a h = cond-true (eqb k.0 k.0) (Some k.1) (secret_in ks k.0) (eq-eqb k.0 k.0 refl)
secret_at (k ∷ ks) (suc i) d a h =
    cond-false (eqb k.0 (get_or ks i d).0) (Some k.1) (secret_in ks (get_or ks i d).0) (ne_eqb k.0 (get_or ks i d).0 (first_apart k ks i d a (omega arith))) ∙
    secret_at ks i d (behind_first k ks a) (omega arith)
