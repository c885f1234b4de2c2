-- A lane of an array of vectors, place by place.
-- Assumes nothing.
use Rattle.std.proofs.Common.{◌≡◌, ℕ, ◌<◌, List, [], ◌∷◌, map, get_or, replicate, refl}
use Rattle.std.proofs.lemmas.List.{get_or-replicate}

-- the same word in each lane
pub splat_lane : (l : ℕ) → l < 4 → (xs : List ℕ) → map (λ v. get_or v l 0) (map (λ x. replicate 4 x) xs) ≡ xs
splat_lane l h [] = refl
splat_lane l h (x ∷ xs) = cc (get_or-replicate 4 l x 0 h, splat_lane l h xs)
