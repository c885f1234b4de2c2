-- The bytes of a wish: its kind, and then what it holds. Assumes nothing.
use Rattle.std.specs.Prelude.{ℕ, List, ◌∷◌, ◌++◌, length}
use Rattle.numbers.specs.Bytes.{two_bytes}
use Rattle.parts.specs.Limits.{WishView}

-- the kind: things that stand by themselves have kinds from 16 on
abbrev pub wish_kind : ℕ
wish_kind = 21

-- how many they are, and each
abbrev pub counted_bytes : List ℕ → List ℕ
counted_bytes xs = length xs ∷ xs

abbrev pub wish_bytes : WishView → List ℕ
wish_bytes w =
    wish_kind ∷ w.museum ∷ two_bytes w.day ++ (two_bytes w.minute ++ (w.persons ∷ counted_bytes w.name))
