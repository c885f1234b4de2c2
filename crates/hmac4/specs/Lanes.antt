-- Keys as words, and a lane of an array of vectors.
-- Assumes nothing.
use Rattle.std.specs.Prelude.{◌≡◌, ℕ, ◌<◌, List, map, length, slice_index}
use Rattle.sha256.specs.Sha256.{words}

-- the words that lane l holds
abbrev pub lane : ℕ → List (List ℕ) → List ℕ
lane l vectors = map (λ v. slice_index v l) vectors

-- the words of a key of 32 bytes
pub record IsKeyOf (key kw : List ℕ) : Type 0 where
  pub long : length key ≡ 32
  pub below : (i : ℕ) → slice_index key i < 256
  pub words_are : kw ≡ words 8 key
