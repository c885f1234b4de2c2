use Rattle.std.proofs.Common.{vec_items}
use Rattle.making.proofs.Rows.{Sofar}
use Rattle.making.proofs.cuts.lines_in.Given as goal

abbrev pub invariant-loop-part : goal.invariant-loop-part
invariant-loop-part l = Sofar (vec_items l.lines) l.part-iterator l.text
