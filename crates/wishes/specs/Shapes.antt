-- Which bytes begin with a wish, and its parts by their places: in the format's own words, without its reader and writer. Assumes nothing.
use Rattle.std.specs.Prelude.{◌≡◌, ℕ, ◌+◌, ◌≤◌, List, length, take, drop}
use Rattle.numbers.specs.Places.{byte, number}
use Rattle.parts.specs.Limits.{WishView}

-- the bytes begin with a wish: by lengths alone
pub record WishFront (bs : List ℕ) : Type 0 where
  pub kind_is : byte bs 0 ≡ 21
  pub long : 8 + byte bs 7 ≤ length bs

-- a wish's parts, and what follows, by their places
pub record WishParts (bs : List ℕ) (w : WishView) (rest : List ℕ) : Type 0 where
  pub museum_at : w.museum ≡ byte bs 1
  pub day_at : w.day ≡ number bs 2
  pub minute_at : w.minute ≡ number bs 4
  pub persons_at : w.persons ≡ byte bs 6
  pub name_at : w.name ≡ take (byte bs 7) (drop 8 bs)
  pub rest_at : rest ≡ drop (byte bs 7) (drop 8 bs)
