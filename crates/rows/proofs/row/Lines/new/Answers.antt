use Rattle.std.proofs.Common.{◌≡◌, refl, arith}
use Rattle.narrow.specs.Rows.{all}
use Rattle.rows.specs.Row.{rows}
use Rattle.rows.specs.Wire.{wire, unwired}
use Rattle.rows.proofs.row.Lines.new.Goals as goal

pub invariant_of-result : goal.invariant_of-result
unfolding wire unwired all
invariant_of-result c = record { few = omega arith; wired = refl; marked = λ i h. let z : i ≡ 0 = omega arith in rw z; legible = refl }

pub returns : goal.returns
unfolding rows unwired
returns c = record { lines = refl; place = refl }
