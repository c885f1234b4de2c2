-- What the code's wishes stand for. Assumes nothing.
use Rattle.std.specs.Prelude.{ℕ, List, Option}
use Rattle.std.specs.Borrow.{Bor}
use Rattle.std.specs.Option as options
use Rattle.parts.specs.Items.{items}
use Rattle.parts.specs.Limits.{WishView}
use Rattle.wishes.specs.declared.wish.RawWish.{RawWish}
use Rattle.wishes.specs.declared.wish.Wish.{Wish}

abbrev pub wish_view : Wish → WishView
wish_view w =
    record { museum = w.museum; day = w.day; minute = w.minute; persons = w.persons; name = items w.name }

abbrev pub raw_view : RawWish → WishView
raw_view w =
    record { museum = w.museum; day = w.day; minute = w.minute; persons = w.persons; name = w.name.now }

-- what was read of a wish, and the rest
abbrev pub wish_read : Option (RawWish × Bor (List ℕ)) → Option (WishView × List ℕ)
wish_read r = options.option_map (λ p. (raw_view p.0, p.1.now)) r
