-- The bytes and the numbers that stand at a place. Assumes nothing.
use Rattle.std.specs.Prelude.{ℕ, ◌+◌, ◌<◌, List, slice_index}
use Rattle.numbers.specs.Bytes.{two}

-- the byte at a place, from 0
abbrev pub byte : List ℕ → ℕ → ℕ
byte bs i = slice_index bs i

-- the number whose two bytes begin at a place
abbrev pub two_at : List ℕ → ℕ → ℕ
two_at bs i = two (byte bs i) (byte bs (i + 1))

-- the same, in the words of the format
abbrev pub number : List ℕ → ℕ → ℕ
number = two_at

abbrev pub AreBytes : List ℕ → Type 0
AreBytes bs = (i : ℕ) → byte bs i < 256
