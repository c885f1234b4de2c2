-- What lines mean for a wish, and where they may stand. Assumes nothing.
use Rattle.std.specs.Prelude.{ℕ, Bool, true, false, List, Ok, Err, Result, nat_eq, nat_le}
use Rattle.narrow.specs.Rows.{any}
use Rattle.narrow.specs.Can.{same_bytes}
use Rattle.narrow.specs.Policy.{Says, Limit, Else, Unreadable}
use Rattle.parts.specs.Limits.{LimitView, MuseumIn, DayIn, MinuteIn, PersonsUpTo, NameIs, LineView, ALimit, AnElse, WishView, within}
use Rattle.lines.specs.declared.Fault.{Fault}
use Rattle.lines.specs.declared.Place.{Place}
use Rattle.lines.specs.declared.Place.TheVariants.{Ticket, Yes}
use Rattle.lines.specs.Reading.{line_of}

-- the limit holds for the wish
abbrev pub holds_for : LimitView → WishView → Bool
holds_for (MuseumIn ms) w = any (λ m. nat_eq m w.museum) ms
holds_for (DayIn a b) w = within a b w.day
holds_for (MinuteIn a b) w = within a b w.minute
holds_for (PersonsUpTo n) w = nat_le w.persons n
holds_for (NameIs ls) w = same_bytes ls w.name

-- what a line says for the wish
abbrev pub line_says : WishView → LineView → Says
line_says w (ALimit l) = Limit (holds_for l w)
line_says w (AnElse k) = Else k

abbrev pub read_says : WishView → Result LineView Fault → Says
read_says w (Ok v) = line_says w v
read_says w (Err f) = Unreadable

-- what the bytes of a line say for the wish
abbrev pub says : WishView → List ℕ → Says
says w bs = read_says w (line_of bs)

-- which line may stand where: a ticket may have any, a yes only limits
abbrev pub may_stand : Place → LineView → Bool
may_stand Ticket v = true
may_stand Yes (ALimit l) = true
may_stand Yes (AnElse k) = false
