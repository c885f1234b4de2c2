-- How far a compression has come, as the code carries it from round to round.
-- Assumes nothing.
use Rattle.std.specs.Prelude.{◌≡◌, ℕ, ◌+◌, List, [], ◌∷◌, length, drop, slice_index, slice_index_or}
use Rattle.sha256.specs.Sha256.{◌⊞◌, σ₀, σ₁, schedule, rounds}

-- the sixteen words of the message schedule from index t on
unfoldable pub window : ℕ → List ℕ → List ℕ
window t block = drop t (schedule t block)

-- sixteen words moved on by one
unfoldable pub advanced : List ℕ → List ℕ
advanced w =
    slice_index w 1 ∷ slice_index w 2 ∷ slice_index w 3 ∷ slice_index w 4 ∷ slice_index w 5 ∷ slice_index w 6 ∷ slice_index w 7 ∷ slice_index w 8 ∷
    slice_index w 9 ∷ slice_index w 10 ∷ slice_index w 11 ∷ slice_index w 12 ∷ slice_index w 13 ∷ slice_index w 14 ∷ slice_index w 15 ∷
    (σ₁ (slice_index w 14) ⊞ slice_index_or w 9 0 ⊞ σ₀ (slice_index w 1) ⊞ slice_index_or w 0 0) ∷ []

-- the working variables v after t + j rounds of the compression of a block into h, and the sixteen words w from index t on
pub record Underway (t j : ℕ) (block h v w : List ℕ) : Type 0 where
  pub sixteen : length block ≡ 16
  pub variables : v ≡ rounds (t + j) (schedule 48 block) h
  pub words : w ≡ window t block
