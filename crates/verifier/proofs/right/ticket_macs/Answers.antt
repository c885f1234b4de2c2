use Rattle.std.proofs.Common.{◌≡◌, ◌∙◌, arith}
use Rattle.hmac.specs.Hmac.{hmac_of}
use Rattle.numbers.specs.Bytes.{four_bytes}
use Rattle.rows.specs.Row.{rows}
use Rattle.tickets.specs.Views.{ticket_body}
use Rattle.verifier.specs.Stages.{secrets}
use Rattle.verifier.proofs.Chains.{chained_all, ticket_chained}
use Rattle.verifier.proofs.right.ticket_macs.Goals as goal

pub returns : goal.returns
returns c =
    let count = c.work_out.ensures.count in
    let first : c.mac-start.result.bytes ≡ hmac_of c.args.book.now.house.bytes (four_bytes c.args.ticket.now.number) =
    c.mac-start.ensures ∙ λ i. hmac_of (c.house.ensures i).bytes (c.to_bytes.ensures i) in
    λ d.
    c.work_out.ensures.each c.work_out.result.count d (omega arith) ∙
    (chained_all _ (rows c.args.ticket.now.lines) c.work_out.result.count (omega arith) ∙ ticket_chained (secrets c.args.book.now) (ticket_body c.args.ticket.now) _ first)
