use Rattle.std.proofs.Common.{vec_items}
use Rattle.scripting.proofs.Lines.{Sofar}
use Rattle.scripting.proofs.read_script.Given as goal

abbrev pub invariant-loop-i : goal.invariant-loop-i
invariant-loop-i g l = Sofar g.L.Language.stated g.L.Language.sense (vec_items l.statements) l.i-iterator l.text
