use Rattle.std.proofs.Common.{arith, length-append}
use Rattle.lines.proofs.Fronts.{line_written}
use Rattle.lines.proofs.writing.write_line.Goals as goal

pub returns : goal.returns
returns c =
    let first = c.copy_from_slice.ensures.after in
    let rest = c.copy_from_slice-2.ensures.after in
    let kind = c.from.ensures in
    let written = line_written c.from.result c.args.first.now c.args.rest.now c.args.out.now (omega arith) in
    (omega (arith, length-append c.args.first.now c.args.rest.now), omega arith, cc)
