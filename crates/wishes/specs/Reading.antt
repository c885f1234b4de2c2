-- How a wish is read from bytes: what it would have to be, if it is written as these bytes. Assumes nothing.
use Rattle.std.specs.Prelude.{ℕ, List, ◌++◌, take, drop, Option, slice_index}
use Rattle.std.specs.Bool.{then_some}
use Rattle.narrow.specs.Can.{same_bytes}
use Rattle.numbers.specs.Places.{two_at}
use Rattle.parts.specs.Limits.{WishView}
use Rattle.wishes.specs.Format.{wish_bytes}

-- what a wish at the front would have to be, by its lengths alone
abbrev pub wish_guess : List ℕ → WishView
wish_guess bs =
    record {
      museum = slice_index bs 1;
      day = two_at bs 2;
      minute = two_at bs 4;
      persons = slice_index bs 6;
      name = take (slice_index bs 7) (drop 8 bs);
    }

-- a wish at the front of the bytes, in range or not, and the rest
unfoldable pub wish_of : List ℕ → Option (WishView × List ℕ)
wish_of bs =
    let rest = drop (slice_index bs 7) (drop 8 bs) in
    then_some (same_bytes bs (wish_bytes (wish_guess bs) ++ rest)) (wish_guess bs, rest)
