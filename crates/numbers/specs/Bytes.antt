-- Numbers in bytes, high byte first. Assumes nothing.
use Rattle.std.specs.Prelude.{ℕ, ◌+◌, ◌*◌, ◌/◌, ◌%◌, List, [], ◌∷◌, ◌++◌}

-- the number that two bytes are
abbrev pub two : ℕ → ℕ → ℕ
two a b = 256 * a + b

-- the two bytes of a number below 2 ^ 16
abbrev pub two_bytes : ℕ → List ℕ
two_bytes n = n / 256 ∷ n % 256 ∷ []

-- the four bytes of a number below 2 ^ 32
abbrev pub four_bytes : ℕ → List ℕ
four_bytes n = two_bytes (n / 65536) ++ two_bytes (n % 65536)
