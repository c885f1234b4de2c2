-- Two lists of bytes compared by the bits in which they differ, gathered over all places.
-- Assumes nothing.
use Rattle.std.proofs.Common.{◌≡◌, ℕ, List, [], ◌∷◌, length, refl, ap, ◌∙◌, arith}
use lib.Bits.{bit_or, bit_xor, or_add_and, xor_add_and, xor_self, and_le_l, and_le_r}
use Rattle.std.specs.List.{fold, zip}

or_none : (a b : ℕ) → bit_or a b ≡ 0 → (a ≡ 0) × (b ≡ 0)
or_none a b h = omega (arith, or_add_and a b, and_le_l a b, and_le_r a b)

xor_none : (a b : ℕ) → bit_xor a b ≡ 0 → a ≡ b
xor_none a b h = omega (arith, xor_add_and a b, and_le_l a b, and_le_r a b)

-- d with the differing bits of one place more
abbrev pub gather : ℕ → ℕ × ℕ → ℕ
gather d p = bit_or d (bit_xor p.0 p.1)

pub same_from_none : (xs ys : List ℕ) (d : ℕ) → length xs ≡ length ys → fold gather d (zip xs ys) ≡ 0 → (d ≡ 0) × (xs ≡ ys)
same_from_none [] [] d n h = (h, refl)
same_from_none [] (y ∷ ys) d n h = cc
same_from_none (x ∷ xs) [] d n h = cc
same_from_none (x ∷ xs) (y ∷ ys) d n h =
    let more = same_from_none xs ys (gather d (x, y)) (omega arith) h in
    let both = or_none d (bit_xor x y) more.0 in
    let e = xor_none x y both.1 in
    (both.0, cc)

pub none_from_same : (xs : List ℕ) → fold gather 0 (zip xs xs) ≡ 0
none_from_same [] = refl
none_from_same (x ∷ xs) =
    let e : gather 0 (x, x) ≡ 0 = rw xor_self in
    ap (λ d. fold gather d (zip xs xs)) e ∙ none_from_same xs
