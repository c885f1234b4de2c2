use Rattle.std.proofs.Common.{Ok, sym, ap, ◌∙◌, subst}
use Rattle.std.proofs.lemmas.Result.{err_from_is_err_and}
use Rattle.narrow.specs.Term.{Bytes}
use Rattle.tickets.specs.Made.{Right}
use Rattle.tickets.specs.Views.{maced_view}
use Rattle.tickets.proofs.Changed.{added_on, added_stop}
use Rattle.tickets.proofs.WithMac.add.Goals as goal

pub returns-in_err-push : goal.returns-in_err-push
returns-in_err-push g c =
    let p = err_from_is_err_and c.from_residual.result c.from_residual.ensures.1 in
    let before = c.args.self.now in
    let back = c.in_err-push.ensures.1 in
    rw (p.1, p.2)
    (record {
      added = (added_stop g.B.Body.longer (maced_view g.B.Body.view before) c.args.line.now _ c.in_err-push.ensures.0, λ i. record { body = back i; mac = before.mac });
      right = λ s r. subst (λ b. Right s (g.B.Body.thing (record { of = g.B.Body.view b; mac = before.mac.bytes }))) (sym back) r;
    })

pub returns : goal.returns
returns g c =
    let before = maced_view g.B.Body.view c.args.self.now in
    let added =
    added_on g.B.Body.longer before c.args.line.now _ c.in_ok-push.ensures ∙
    ap (λ (b : Bytes). Ok (record { of = g.B.Body.view c.push.new.self; mac = b })) (sym c.mac-self.ensures) in
    record { added = added; right = λ s r. g.met.B.Body.stays_right s before _ c.args.line.now added r }
