use Rattle.std.proofs.lemmas.Slice.Eq.{slice_eq-Decides}
use Rattle.parts.specs.Items.{items}
use Rattle.lines.proofs.Rows.{contains_is, equals_is}
use Rattle.lines.proofs.Limit.holds.Goals as goal
use Rattle.std.proofs.lemmas.Bool.Decides.{Decides-eqb}

pub returns-in-Museums : goal.returns-in-Museums
returns-in-Museums c =
    rw c.in-Museums.is
    (contains_is c.args.wish.museum (items c.in-Museums.museums) c.as_slice.result.now c.contains.result c.as_slice.ensures c.contains.ensures.cases)

pub returns-in-Name : goal.returns-in-Name
returns-in-Name c =
    rw c.in-Name.is
    (equals_is (items c.in-Name.name) (items c.args.wish.name) c.as_slice-in-Name.result.now c.as_slice-in-Name-2.result.now
    c.eq.result c.as_slice-in-Name.ensures c.as_slice-in-Name-2.ensures (slice_eq-Decides Decides-eqb _ _ _ c.eq.ensures))
