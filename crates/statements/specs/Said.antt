-- What a statement says: its words as bytes, its lines and its wish as they are. Assumes nothing.
use Rattle.std.specs.Prelude.{ℕ, List}
use Rattle.parts.specs.Limits.{LineView, WishView}

-- what is given: the thing of this name, or the key of this number
pub data Gifted : Type 0 where
  a_thing : List ℕ → Gifted
  a_key : ℕ → Gifted

pub data Said : Type 0 where
  -- the seed
  house_of : List ℕ → Said
  -- the key, to whom
  key_to : ℕ → List ℕ → Said
  -- the name, the number, the lines, to whom
  ticket_to : List ℕ → ℕ → List LineView → List ℕ → Said
  -- the name, the key, the limits, by whom
  yes_by : List ℕ → ℕ → List LineView → List ℕ → Said
  -- the name, the old thing's name, the lines, by whom
  add_by : List ℕ → List ℕ → List LineView → List ℕ → Said
  -- the name, the yes, the ticket, by whom
  tie_by : List ℕ → List ℕ → List ℕ → List ℕ → Said
  -- what, from whom, to whom
  given : Gifted → List ℕ → List ℕ → Said
  -- who wishes, and what
  wish_of : List ℕ → WishView → Said
  -- who shows, the ticket, the tied yeses, and the wish
  shown : List ℕ → List ℕ → List (List ℕ) → WishView → Said
