-- What holds of numbers and their bytes, whatever their width. Assumes nothing.
use Rattle.std.specs.Prelude.{◌≡◌, ℕ, ◌≤◌, List, ◌++◌, length}

-- every number has as many bytes, no more than the widest number; and two with the same bytes in front are the same, and so is what follows
pub record NumberLaws {T : Type 0} (size : ℕ) (bytes_of : T → List ℕ) : Type 0 where
  pub narrow : size ≤ 16
  pub sized : (n : T) → length (bytes_of n) ≡ size
  pub same : (m n : T) (xs ys : List ℕ) → bytes_of m ++ xs ≡ bytes_of n ++ ys → (m ≡ n) × (xs ≡ ys)
