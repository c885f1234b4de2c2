use Rattle.std.proofs.Common.{◌≡◌, ◌∙◌, true, length, arith}
use Rattle.std.proofs.lemmas.Grind.{common_steps}
use Rattle.parts.specs.Limits.{within}
use Rattle.parts.proofs.Rows.{short_is}
use Rattle.parts.proofs.short.Short.can_be.Goals as goal

pub returns-then-contains : goal.returns-then-contains
returns-then-contains g c =
    let few : within g.row.LEAST g.row.MOST (length c.args.bytes.now) ≡ true = grind (arith, common_steps) in
    c.all_within.ensures ∙ short_is g.row.LEAST g.row.MOST g.row.LOW g.row.HIGH c.args.bytes.now few
