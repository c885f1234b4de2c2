use Rattle.std.proofs.Common.{arith}
use Rattle.rows.proofs.Held.{row_count}
use Rattle.rows.proofs.Short.{row_few}
use Rattle.rows.proofs.each.EachIterator.next.Goals as goal

pub overflow_add-self : goal.overflow_add-self
overflow_add-self c = omega (arith, c.in_ok-line.ensures.0, row_count c.args.self.now.lines.now, row_few c.args.self.now.lines.now)
