use Rattle.std.proofs.Common.{arith}
use Rattle.rows.proofs.Held.{row_count, row_between, row_end, row_part}
use Rattle.rows.proofs.row.Lines.line.Goals as goal

pub returns-then-i-self : goal.returns-then-i-self
returns-then-i-self c = omega (arith, row_count c.args.self.now)

pub slice_bounds-result-count : goal.slice_bounds-result-count
slice_bounds-result-count c = omega (arith, c.from-from.ensures, c.from-to.ensures, row_between c.args.self.now c.args.i c.if-i-self.false)

pub slice_bounds-result-start : goal.slice_bounds-result-start
slice_bounds-result-start c =
    omega (arith, c.from-from.ensures, c.from-to.ensures, row_between c.args.self.now c.args.i c.if-i-self.false, row_end c.args.self.now c.args.i c.if-i-self.false)

pub slice_bounds-result-end : goal.slice_bounds-result-end
slice_bounds-result-end c =
    omega (arith, c.from-from.ensures, c.from-to.ensures, row_between c.args.self.now c.args.i c.if-i-self.false, row_end c.args.self.now c.args.i c.if-i-self.false)

pub returns : goal.returns
returns c =
    (omega (arith, row_count c.args.self.now, c.if-i-self.false), rw (c.from-from.ensures, c.from-to.ensures) (row_part c.args.self.now c.args.i c.if-i-self.false))
