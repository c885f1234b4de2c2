-- The laws of numbers at each width. Assumes nothing.
use Rattle.std.specs.Prelude.{◌≡◌, ℕ, ◌+◌, ◌*◌, ◌/◌, ◌%◌, List, ◌++◌, refl}
use Rattle.std.proofs.Common.{sym, ◌∙◌, lit≤}
use Rattle.std.proofs.lemmas.Nat.{div-add-mod'}
use mathlib.Core.List.{cons-eq-cons}
use Rattle.numbers.specs.Bytes.{two_bytes, four_bytes}
use Rattle.numbers.specs.Number.{NumberLaws}

from_parts : (size m n : ℕ) → m / size ≡ n / size → m % size ≡ n % size → m ≡ n
from_parts size m n high low = sym (div-add-mod' m size) ∙ ((λ i. high i * size + low i) ∙ div-add-mod' n size)

-- two numbers with the same bytes in front are the same, and so is what follows
pub two_bytes_same : (m n : ℕ) (xs ys : List ℕ) → two_bytes m ++ xs ≡ two_bytes n ++ ys → (m ≡ n) × (xs ≡ ys)
two_bytes_same m n xs ys e =
    let (high, tail) = cons-eq-cons.0 e in
    let (low, after) = cons-eq-cons.0 tail in
    (from_parts 256 m n high low, after)

pub four_bytes_same : (m n : ℕ) (xs ys : List ℕ) → four_bytes m ++ xs ≡ four_bytes n ++ ys → (m ≡ n) × (xs ≡ ys)
four_bytes_same m n xs ys e =
    let (high, tail) = two_bytes_same (m / 65536) (n / 65536) (two_bytes (m % 65536) ++ xs) (two_bytes (n % 65536) ++ ys) e in
    let (low, after) = two_bytes_same (m % 65536) (n % 65536) xs ys tail in
    (from_parts 65536 m n high low, after)

pub two_bytes_laws : NumberLaws 2 two_bytes
two_bytes_laws = record { narrow = lit≤ tt; sized = λ n. refl; same = two_bytes_same }

pub four_bytes_laws : NumberLaws 4 four_bytes
four_bytes_laws = record { narrow = lit≤ tt; sized = λ n. refl; same = four_bytes_same }
