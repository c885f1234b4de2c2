use Rattle.std.proofs.Common.{arith}
use Rattle.std.proofs.lemmas.Grind.{common_steps}
use Rattle.rows.proofs.Held.{row_count}
use Rattle.rows.proofs.Short.{row_few}
use Rattle.rows.proofs.row.Lines.iter.Goals as goal

pub returns-clause-bound : goal.returns-clause-bound
returns-clause-bound c = grind (arith, common_steps, row_count c.args.self.now, row_few c.args.self.now)
