-- The laws of wishes. Assumes nothing.
use Rattle.std.specs.Prelude.{◌≡◌, ℕ, List, ◌++◌, is_some, Some, Decides}
use Rattle.numbers.specs.Places.{AreBytes}
use Rattle.parts.specs.Limits.{WishView}
use Rattle.wishes.specs.Format.{wish_bytes}
use Rattle.wishes.specs.Reading.{wish_of}
use Rattle.wishes.specs.Shapes.{WishFront, WishParts}

-- Every wish is read back from its bytes as it was, whatever follows them.
abbrev pub WishesBack : Type 0
WishesBack = (w : WishView) (rest : List ℕ) → wish_of (wish_bytes w ++ rest) ≡ Some (w, rest)

-- Whatever is read as a wish, its bytes stand in front of the rest.
abbrev pub WishesExact : Type 0
WishesExact = (bs : List ℕ) (w : WishView) (rest : List ℕ) → wish_of bs ≡ Some (w, rest) → bs ≡ wish_bytes w ++ rest

-- A wish is read just from bytes that begin with one, and its parts are those at their places.
pub record WishTold (bs : List ℕ) : Type 0 where
  pub front : Decides (is_some (wish_of bs)) (WishFront bs)
  pub parts : (w : WishView) (rest : List ℕ) → wish_of bs ≡ Some (w, rest) → WishParts bs w rest

abbrev pub WishFormat : Type 0
WishFormat = (bs : List ℕ) → AreBytes bs → WishTold bs
