use Rattle.std.proofs.Common.{Ok, ◌∙◌}
use Rattle.making.specs.Cuts.{lines_in}
use Rattle.texts.proofs.Steps.{so, no, last_so, last_no}
use Rattle.statements.specs.Said.{ticket_to}
use Rattle.statements.specs.Views.{stated, lines_view}
use Rattle.trouble.proofs.Chains.{stops, hands_on}
use Rattle.making.specs.Forms.{ticket_said}
use Rattle.making.proofs.read_ticket.Goals as goal

pub returns-in_err-parts : goal.returns-in_err-parts
unfolding ticket_said
returns-in_err-parts c = stops stated c.from_residual.result c.from_residual.ensures.1 (no _ c.in_err-parts.ensures)

pub returns-in_err-number : goal.returns-in_err-number
unfolding ticket_said
returns-in_err-number c = stops stated c.from_residual-in_err-number.result c.from_residual-in_err-number.ensures.1 (so _ c.in_ok-parts.ensures (no _ c.in_err-number.ensures))

pub returns-in_err-lines : goal.returns-in_err-lines
unfolding ticket_said
returns-in_err-lines c = hands_on stated c.from_residual-in_err-lines.result lines_view (lines_in c.in_ok-parts.parts.front.now) _ c.from_residual-in_err-lines.ensures.1 c.in_err-lines.ensures (λ k h. so _ c.in_ok-parts.ensures (so _ c.in_ok-number.ensures (last_no _ h)))

pub returns : goal.returns
unfolding ticket_said
returns c = so _ c.in_ok-parts.ensures (so _ c.in_ok-number.ensures ((λ i. Ok (ticket_to (c.in_ok-name.ensures.0 i) c.in_ok-number.number (lines_view c.in_ok-lines.lines) (c.in_ok-name.ensures.1 i))) ∙ last_so _ c.in_ok-lines.ensures))
