-- The lines of a row that an iterator has not given yet. Assumes nothing.
use Rattle.std.specs.Prelude.{List, drop}
use Rattle.narrow.specs.Term.{Bytes}
use Rattle.rows.specs.declared.each.Each.{Each}
use Rattle.rows.specs.Row.{rows}

abbrev pub lines_left : Each → List Bytes
lines_left e = drop e.at (rows e.lines.now)
