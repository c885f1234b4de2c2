-- How lines are read from bytes: what a line would have to be, if it is written as these bytes. Assumes nothing.
use Rattle.std.specs.Prelude.{ℕ, cond, ◌&&◌, List, [], ◌∷◌, drop, Some, None, Err, Option, Result, ◌==◌, slice_index}
use Rattle.std.specs.Bool.{then_some}
use Rattle.std.specs.Option.{ok_or}
use Rattle.narrow.specs.Can.{same_bytes}
use Rattle.numbers.specs.Places.{two_at}
use Rattle.parts.specs.Limits.{MuseumIn, DayIn, MinuteIn, PersonsUpTo, NameIs, LineView, ALimit, AnElse, is_line}
use Rattle.lines.specs.declared.Fault.{Fault}
use Rattle.lines.specs.declared.Fault.TheVariants.{Shape, Unreadable, TooMany, Range}
use Rattle.lines.specs.Format.{museums_kind, days_kind, minutes_kind, persons_kind, name_kind, else_kind, line_bytes}

-- the number of a fault in reading
abbrev pub fault_number : Fault → ℕ
fault_number Shape = 1
fault_number Unreadable = 2
fault_number TooMany = 3
fault_number Range = 4

-- what a line of a kind would have to be, by its content; none if there is no such kind
abbrev pub line_guess : ℕ → List ℕ → Option LineView
line_guess kind content =
    cond (kind == museums_kind) (Some (ALimit (MuseumIn (drop 1 content))))
    (cond (kind == days_kind) (Some (ALimit (DayIn (two_at content 0) (two_at content 2))))
    (cond (kind == minutes_kind) (Some (ALimit (MinuteIn (two_at content 0) (two_at content 2))))
    (cond (kind == persons_kind) (Some (ALimit (PersonsUpTo (slice_index content 0))))
    (cond (kind == name_kind) (Some (ALimit (NameIs (drop 1 content))))
    (cond (kind == else_kind) (Some (AnElse (two_at content 0))) None)))))

abbrev pub if_written : List ℕ → Option LineView → Result LineView Fault
if_written bs None = Err Shape
if_written bs (Some v) = ok_or (then_some (is_line v && same_bytes bs (line_bytes v)) v) Unreadable

unfoldable pub line_of : List ℕ → Result LineView Fault
line_of [] = Err Shape
line_of (kind ∷ content) = if_written (kind ∷ content) (line_guess kind content)
