-- Decimal numbers, over their bytes. Assumes nothing.
use Rattle.std.specs.Prelude.{◌≡◌, ℕ, ◌+◌, ◌<◌, ◌≤◌, Bool, cond, ◌&&◌, List, ◌++◌, length, replicate, Ok, Err, decimal, Result, nat_le, nat_lt}
use Rattle.std.specs.Result.{OkIff}
use Rattle.std.specs.Str.Parse.{digits_value}
use Rattle.std.specs.Str.{all_ascii_digits}
use Rattle.texts.specs.declared.Cause.{Cause}
use Rattle.texts.specs.declared.Cause.TheVariants.{NotANumber, TooLarge}

-- digits, and one at least
abbrev pub is_numeral : List ℕ → Bool
is_numeral w = all_ascii_digits w && nat_lt 0 (length w)

-- the value of a type that a word writes, if it is at most so much
unfoldable pub number_in : {N : Type 0} → ℕ → (ℕ → N) → List ℕ → Result N Cause
number_in most value w = cond (is_numeral w) (cond (nat_le (digits_value 10 w) most) (Ok (value (digits_value 10 w))) (Err TooLarge)) (Err NotANumber)

-- the number that a word writes, if it is at most so much
abbrev pub number_of : ℕ → List ℕ → Result ℕ Cause
number_of most w = number_in most (λ n. n) w

-- a type holds the numbers up to most, of 32 bits at most: gives is what its conversion says
pub record Holds {N E : Type 0} (gives : ℕ → Result N E → Type 0) (most : ℕ) (value : ℕ → N) : Type 0 where
  pub wide : most ≤ 4294967295
  pub each : (n : ℕ) (r : Result N E) → gives n r → OkIff r (n < most + 1) (value n)

-- a number as it is printed, or with zeros in front
abbrev pub Writes : List ℕ → ℕ → Type 0
Writes ds n = (zeros : ℕ) × (ds ≡ replicate zeros 48 ++ decimal n)
