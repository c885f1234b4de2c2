-- Rows of bytes, element by element. Assumes nothing.
use Rattle.std.proofs.Common.{◌≡◌, ℕ, Bool, eqb, List, Decides, refl}
use Rattle.std.specs.List.{IsAnyAnswer}
use Rattle.std.proofs.lemmas.List.Elements.{contains_decides}
use Rattle.std.proofs.lemmas.Bool.Decides.{same_from_decides, Decides-eqb, Decides-by_or}
use Rattle.narrow.specs.Rows.{any}
use Rattle.narrow.specs.Can.{same_bytes}
use Rattle.narrow.proofs.Can.{same_bytes_lem}

-- what `contains` answers
pub contains_is : (x : ℕ) (xs ys : List ℕ) (r : Bool) → ys ≡ xs → IsAnyAnswer (λ y t. eqb y x ≡ t) ys r → r ≡ any (λ m. eqb m x) xs
unfolding any
contains_is x xs ys r e h =
    same_from_decides r (any (λ m. eqb m x) xs) (contains_decides eqb Decides-eqb xs x r (rw e at h))
    (Decides-by_or (λ m. eqb m x) (λ m. m ≡ x) (any (λ m. eqb m x)) (λ m. Decides-eqb m x) refl (λ _ _. refl) xs)

-- what `==` answers
pub equals_is : (xs ys us vs : List ℕ) (r : Bool) → us ≡ xs → vs ≡ ys → Decides r (us ≡ vs) → r ≡ same_bytes xs ys
equals_is xs ys us vs r e d h = same_from_decides r (same_bytes xs ys) (rw (e, d) at h) (same_bytes_lem xs ys)
