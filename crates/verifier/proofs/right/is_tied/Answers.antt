use Rattle.std.proofs.Common.{◌&&◌, is_some, sym, ap, ◌∙◌}
use Rattle.narrow.specs.Term.{Bytes}
use Rattle.narrow.specs.TermBytes.{tie_message}
use Rattle.hmac.specs.Hmac.{hmac_of}
use Rattle.tickets.specs.Views.{yes_body, tied_view}
use Rattle.verifier.specs.Stages.{secrets, tie_is}
use Rattle.verifier.proofs.Chains.{yes_chained, same_decides}
use Rattle.verifier.proofs.right.is_tied.Goals as goal

pub returns-in_default : goal.returns-in_default
returns-in_default c = ap (λ o. is_some o && tie_is (secrets c.args.book.now) c.args.ticket.bytes (tied_view c.args.yes.now)) c.in_default.ensures

pub returns : goal.returns
returns c =
    let s = secrets c.args.book.now in
    let y = c.args.yes.now in
    let mac = c.yes_mac.ensures ∙ yes_chained s (yes_body y.body) c.in-Some.secret.bytes (sym c.in-Some.ensures) in
    same_decides c.same.result c.tie.result.bytes y.tie.bytes _ c.same.ensures (c.tie.ensures ∙ ap (λ (b : Bytes). hmac_of c.args.ticket.bytes (tie_message b)) mac) ∙
    ap (λ o. is_some o && tie_is s c.args.ticket.bytes (tied_view y)) c.in-Some.ensures
