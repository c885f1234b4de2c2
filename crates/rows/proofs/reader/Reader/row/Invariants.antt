use Rattle.std.proofs.Common.{◌≡◌, ◌-◌}
use Rattle.rows.specs.Row.{rows}
use Rattle.rows.specs.Rowing.{lines_from}
use Rattle.rows.proofs.reader.Reader.row.Given as goal

-- what is left to read gives the same as all did when the loop began
abbrev pub invariant-loop : goal.invariant-loop
invariant-loop l =
    (l.lines.place ≡ l.initial.lines.place) ×
    (lines_from l.initial.lines.place l.count (rows l.initial.lines) l.initial.self.rest.now ≡
    lines_from l.initial.lines.place (l.count - l.counter) (rows l.lines) l.self.rest.now)
