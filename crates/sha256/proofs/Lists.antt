-- Lists of a known length, written out by their elements.
-- Assumes nothing.
use Rattle.std.proofs.Common.{◌≡◌, ℕ, List, [], ◌∷◌, length, get_or, ap, ◌∙◌}
use lib.Lanes.{zip2}
use Rattle.std.proofs.lemmas.Simd.{pick_l_whole}

abbrev pub eight_of : List ℕ → List ℕ
eight_of v = get_or v 0 0 ∷ get_or v 1 0 ∷ get_or v 2 0 ∷ get_or v 3 0 ∷ get_or v 4 0 ∷ get_or v 5 0 ∷ get_or v 6 0 ∷ get_or v 7 0 ∷ []

pub eight_is : (v : List ℕ) → length v ≡ 8 → eight_of v ≡ v
eight_is v n = pick_l_whole 0 v 8 n

pub zip_eight : (f : ℕ → ℕ → ℕ) (h v : List ℕ) → length h ≡ 8 → length v ≡ 8 → zip2 f (eight_of h) (eight_of v) ≡ zip2 f h v
zip_eight f h v m n = ap (λ x. zip2 f x (eight_of v)) (eight_is h m) ∙ ap (zip2 f h) (eight_is v n)
