use Rattle.std.proofs.Common.{length, Err, refl, ap, ◌∙◌, arith}
use Rattle.std.proofs.lemmas.Option.{MatchOption-at_some}
use Rattle.std.proofs.lemmas.Result.{err_from_is_err_and}
use Rattle.std.proofs.lemmas.Bool.{lt-ltb, le-ltb}
use Rattle.rows.specs.Row.{rows}
use Rattle.rows.proofs.Held.{row_count}
use Rattle.rows.proofs.Rowings.{wanting}
use Rattle.tickets.specs.Places.{on_ticket}
use Rattle.numbers.specs.Bytes.{four_bytes}
use Rattle.codec.specs.Format.{fixed, row}
use Rattle.codec.specs.Things.{ticket_kind, number_length}
use Rattle.codec.proofs.Combined.{fixed_join}
use Rattle.codec.proofs.Steps.{fixed_short, behind_on, behind_told, named_on, named_stop, both_first, both_second, both_on, only_on, only_other, only_stop}
use Rattle.codec.proofs.bodies.TicketBodyCoded.read.Goals as goal

pub returns-in_err-read_kind : goal.returns-in_err-read_kind
returns-in_err-read_kind c =
    let p = err_from_is_err_and c.from_residual.result c.from_residual.ensures.1 in
    rw (p.1, p.2) (behind_told _ ticket_kind _ _ c.in_err-read_kind.ensures)

pub returns-in_err-number : goal.returns-in_err-number
returns-in_err-number c =
    let p = err_from_is_err_and c.from_residual-in_err-number.result c.from_residual-in_err-number.ensures.1 in
    let (short, same) = wanting _ _ _ _ _ c.in_err-number.ensures.value c.number.ensures in
    rw (p.1, p.2)
    (behind_on _ ticket_kind _ _ c.in_ok-read_kind.ensures ∙ (named_stop _ _ _ _ _ (both_first _ _ _ _ (fixed_short number_length _ short.0)) ∙ ap Err same))

pub returns-in_err-lines : goal.returns-in_err-lines
unfolding row
returns-in_err-lines c =
    let p = err_from_is_err_and c.from_residual-in_err-lines.result c.from_residual-in_err-lines.ensures.1 in
    let four = MatchOption-at_some _ _ _ c.in_ok-number.ensures.ok_part c.number.ensures in
    let number = ap (fixed number_length).read four ∙ fixed_join number_length (four_bytes c.in_ok-number.number) c.number.new.self.rest.now refl in
    rw (p.1, p.2) (behind_on _ ticket_kind _ _ c.in_ok-read_kind.ensures ∙ named_stop _ _ _ _ _ (both_second _ _ _ _ _ number _ (only_stop _ _ _ _ _ c.in_err-lines.ensures.read)))

pub returns-then-len-eq0 : goal.returns-then-len-eq0
unfolding row
returns-then-len-eq0 c =
    let four = MatchOption-at_some _ _ _ c.in_ok-number.ensures.ok_part c.number.ensures in
    let number = ap (fixed number_length).read four ∙ fixed_join number_length (four_bytes c.in_ok-number.number) c.number.new.self.rest.now refl in
    behind_on _ ticket_kind _ _ c.in_ok-read_kind.ensures ∙
    named_stop _ _ _ _ _
    (both_second _ _ _ _ _ number _
    (only_other _ _ _ _ _ _ c.in_ok-lines.ensures.read (le-ltb 0 (length (rows c.in_ok-lines.lines)) (omega (arith, c.len.ensures.value, c.if-len-eq0.true)))))

pub invariant_of-result : goal.invariant_of-result
invariant_of-result c = record { stands = ap on_ticket c.in_ok-lines.ensures.place; some = omega (arith, c.len.ensures.value, c.if-len-eq0.false, row_count c.in_ok-lines.lines) }

pub returns : goal.returns
unfolding row
returns c =
    let four = MatchOption-at_some _ _ _ c.in_ok-number.ensures.ok_part c.number.ensures in
    let number = ap (fixed number_length).read four ∙ fixed_join number_length (four_bytes c.in_ok-number.number) c.number.new.self.rest.now refl in
    behind_on _ ticket_kind _ _ c.in_ok-read_kind.ensures ∙
    named_on _ _ _ _ _ _
    (both_on _ _ _ _ _ number _ _
    (only_on _ _ _ _ _ _ c.in_ok-lines.ensures.read (lt-ltb 0 (length (rows c.in_ok-lines.lines)) (omega (arith, c.len.ensures.value, c.if-len-eq0.false)))))
