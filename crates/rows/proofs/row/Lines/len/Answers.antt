use Rattle.std.proofs.Common.{sym}
use Rattle.rows.proofs.Held.{row_count}
use Rattle.rows.proofs.Short.{row_few}
use Rattle.rows.proofs.row.Lines.len.Goals as goal

pub returns : goal.returns
returns c = record { value = sym (row_count c.args.self.now); bound = row_few c.args.self.now }
