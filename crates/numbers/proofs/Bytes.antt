-- Numbers and their bytes, there and back. Assumes nothing.
use Rattle.std.proofs.Common.{◌≡◌, ℕ, zero, suc, ◌+◌, ◌/◌, ◌%◌, ◌<◌, ◌≤◌, List, [], ◌∷◌, ◌++◌, length, get_or, drop, ap, ◌∙◌, add-one, append-nil, arith}
use Rattle.std.proofs.Math.Seq.{drop-cons}
use Rattle.std.proofs.lemmas.List.{drop_all}
use Rattle.numbers.specs.Bytes.{two, two_bytes}

pub two_back : (n : ℕ) → two (n / 256) (n % 256) ≡ n
two_back n = omega arith

-- two bytes in front are the bytes of their number
pub two_in_front : (a b : ℕ) (rest : List ℕ) → b < 256 → a ∷ b ∷ rest ≡ two_bytes (two a b) ++ rest
two_in_front a b rest h =
    let high : two a b / 256 ≡ a = omega arith in
    let low : two a b % 256 ≡ b = omega arith in
    cc

-- the elements at so many places, from one on
abbrev pub at_places : ℕ → ℕ → List ℕ → List ℕ
at_places zero i bs = []
at_places (suc n) i bs = get_or bs i 0 ∷ at_places n (i + 1) bs

from_place : (n i : ℕ) (bs : List ℕ) → i + n ≤ length bs → drop i bs ≡ at_places n i bs ++ drop (i + n) bs
from_place zero i bs room = ap (λ (k : ℕ). drop k bs) (omega arith)
from_place (suc n) i bs room =
    let first : drop i bs ≡ get_or bs i 0 ∷ drop (i + 1) bs = rw add-one (drop-cons bs i 0 (omega arith)) in
    let past : i + 1 + n ≡ i + suc n = omega arith in
    let rest = from_place n (i + 1) bs (omega arith) in
    rw (first, rest, past)

-- a list by its first places, and what follows them
pub by_places : (n : ℕ) (bs : List ℕ) → n ≤ length bs → bs ≡ at_places n 0 bs ++ drop n bs
by_places n bs room = let none : 0 + n ≡ n = omega arith in rw none at (from_place n 0 bs (omega arith))

-- all of a list by its places
pub all_places : (n : ℕ) (bs : List ℕ) → length bs ≡ n → bs ≡ at_places n 0 bs
all_places n bs long =
    by_places n bs (omega arith) ∙ ap (λ (xs : List ℕ). at_places n 0 bs ++ xs) (drop_all n bs (omega arith)) ∙ append-nil (at_places n 0 bs)
