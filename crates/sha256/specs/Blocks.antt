-- A hash taken up part way, as the code carries it from block to block.
-- Assumes nothing.
use Rattle.std.specs.Prelude.{ℕ, ◌+◌, ◌/◌, List, ◌++◌, length}
use Rattle.sha256.specs.Sha256.{absorbed, padding}

-- what is left to absorb of a message of which n bytes are absorbed already
unfoldable pub remaining : ℕ → List ℕ → List ℕ
remaining n rest = rest ++ padding (n + length rest)

-- the hash value after the rest of a message, of which n bytes, whole blocks, are in h already
unfoldable pub finished : ℕ → List ℕ → List ℕ → List ℕ
finished n rest h = absorbed (length (remaining n rest) / 64) (remaining n rest) h
