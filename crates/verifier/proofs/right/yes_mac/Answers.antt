use Rattle.std.proofs.Common.{ap, ◌∙◌, arith}
use Rattle.hmac.specs.declared.Mac.{Mac}
use Rattle.narrow.specs.Ticket.{yes_message}
use Rattle.rows.specs.Row.{rows}
use Rattle.verifier.proofs.Chains.{chained_all, chained_first}
use Rattle.verifier.proofs.right.yes_mac.Goals as goal

pub returns : goal.returns
returns c =
    let count = c.work_out.ensures.count in
    let d = c.args.secret in
    ap (λ (m : Mac). m.bytes) (c.last.ensures d) ∙
    (c.work_out.ensures.each c.work_out.result.count d (omega arith) ∙
    (chained_all _ (rows c.args.yes.now.limits) c.work_out.result.count (omega arith) ∙ chained_first c.args.secret.bytes yes_message (rows c.args.yes.now.limits) _ c.mac.ensures))
