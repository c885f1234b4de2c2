-- What is read from and written to the front of lent slices. Assumes nothing.
use Rattle.std.specs.Prelude.{◌≡◌, ℕ, ◌<◌, ◌≤◌, List, ◌++◌, length, drop, Option, MatchOption}
use Rattle.std.specs.Borrow.{Bor}

-- a number of `size` bytes is read: there are too few bytes, or its bytes stand in front of the rest
abbrev pub ReadsFront : {T : Type 0} → ℕ → (T → List ℕ) → List ℕ → Option (T × Bor (List ℕ)) → Type 0
ReadsFront size bytes_of bs r = MatchOption r (length bs < size) (λ p. bs ≡ bytes_of p.0 ++ p.1.now)

-- bytes are written at the front: there is no room, and all is as it was, or they stand before what was there, and their number is told
abbrev pub WritesFront : List ℕ → List ℕ → List ℕ → Option ℕ → Type 0
WritesFront bs before after r =
    MatchOption r ((length before < length bs) × (after ≡ before))
    (λ n. (n ≡ length bs) × (n ≤ length before) × (after ≡ bs ++ drop n before))
