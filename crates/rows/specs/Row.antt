-- The row of lines that a ticket or a yes has. Assumes nothing.
use Rattle.std.specs.Prelude.{List}
use Rattle.narrow.specs.Term.{Bytes}
use Rattle.rows.specs.declared.row.Lines.{Lines}
use Rattle.rows.specs.Wire.{wire, unwired}

unfoldable pub rows : Lines → List Bytes
rows r = unwired r.count r.bytes

-- as they are carried
abbrev pub carried : Lines → Bytes
carried r = wire (rows r)
