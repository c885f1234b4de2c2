use Rattle.std.proofs.Common.{◌≡◌, List, [], Ok, sym, ap, ◌∙◌}
use Rattle.std.proofs.lemmas.Result.{err_from_is_err_and}
use Rattle.narrow.specs.Term.{Bytes}
use Rattle.numbers.specs.Bytes.{four_bytes}
use Rattle.hmac.specs.Hmac.{hmac_of}
use Rattle.rows.specs.Row.{rows}
use Rattle.rows.specs.Standing.{pushed}
use Rattle.tickets.specs.Making.{ticket_longer, number_maced, new_ticket}
use Rattle.tickets.specs.Places.{on_ticket}
use Rattle.tickets.proofs.Changed.{some_line, longer_at, added_on, added_stop}
use Rattle.tickets.proofs.Rightly.{right_new}
use Rattle.tickets.proofs.Ticket.new.Goals as goal

pub returns-in_err-push : goal.returns-in_err-push
unfolding new_ticket
returns-in_err-push c =
    let p = err_from_is_err_and c.from_residual.result c.from_residual.ensures.1 in
    let start = number_maced c.args.house.bytes (four_bytes c.args.number) in
    let empty = ap (λ (ls : List Bytes). pushed c.new-lines.result.place ls c.args.first.now) (sym c.new-lines.ensures.lines) in
    rw (p.1, p.2)
    (record {
      value = sym (added_stop ticket_longer start c.args.first.now _ (longer_at _ _ _ [] c.args.first.now _ c.new-lines.ensures.place (empty ∙ c.in_err-push.ensures.added.0)));
      right = tt;
    })

pub invariant_of-body : goal.invariant_of-body
invariant_of-body c = record {
  stands = ap on_ticket (c.in_ok-push.ensures.place ∙ c.new-lines.ensures.place);
  some = some_line _ _ c.args.first.now c.push.new.self c.in_ok-push.ensures.added;
}

pub returns : goal.returns
unfolding new_ticket
returns c =
    let number = four_bytes c.args.number in
    let start = number_maced c.args.house.bytes number in
    let empty = ap (λ (ls : List Bytes). pushed c.new-lines.result.place ls c.args.first.now) (sym c.new-lines.ensures.lines) in
    let maced : c.mac-mac.result.bytes ≡ hmac_of (hmac_of c.args.house.bytes number) c.args.first.now =
    c.mac-mac.ensures ∙ ap (λ (b : Bytes). hmac_of b c.args.first.now) (c.mac-start.ensures ∙ ap (hmac_of c.args.house.bytes) c.to_bytes.ensures) in
    let made =
    added_on ticket_longer start c.args.first.now _ (longer_at _ _ _ [] c.args.first.now _ c.new-lines.ensures.place (empty ∙ c.in_ok-push.ensures.added)) ∙
    ap (λ (b : Bytes). Ok (record { of = record { number = number; lines = rows c.push.new.self }; mac = b })) (sym maced) in
    record {
      value = sym made;
      right = λ s e. right_new s number c.args.first.now _ (ap (λ (b : Bytes). new_ticket b number c.args.first.now) e ∙ made);
    }
