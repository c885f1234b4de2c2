-- What the code's lines stand for. Assumes nothing.
use Rattle.std.specs.Prelude.{Result}
use Rattle.std.specs.Result as results
use Rattle.parts.specs.Limits.{LimitView, MuseumIn, DayIn, MinuteIn, PersonsUpTo, NameIs, LineView, ALimit, AnElse}
use Rattle.parts.specs.Items.{items}
use Rattle.lines.specs.declared.Fault.{Fault}
use Rattle.lines.specs.declared.Limit.{Limit}
use Rattle.lines.specs.declared.Limit.TheVariants as limit
use Rattle.lines.specs.declared.Line.{Line}
use Rattle.lines.specs.declared.Line.TheVariants as line

abbrev pub limit_view : Limit → LimitView
limit_view (limit.Museums m) = MuseumIn (items m)
limit_view (limit.Days s) = DayIn s.from s.to
limit_view (limit.Minutes s) = MinuteIn s.from s.to
limit_view (limit.Persons n) = PersonsUpTo n
limit_view (limit.Name n) = NameIs (items n)

abbrev pub line_view : Line → LineView
line_view (line.Limit l) = ALimit (limit_view l)
line_view (line.Else k) = AnElse k.number

-- what was read of a line
abbrev pub line_read : Result Line Fault → Result LineView Fault
line_read r = results.result_map_both line_view (λ f. f) r
