use Rattle.std.proofs.Common.{Ok, ◌∙◌}
use Rattle.texts.proofs.Steps.{so, no, last_so, last_no}
use Rattle.statements.specs.Said.{tie_by}
use Rattle.statements.specs.Views.{stated}
use Rattle.trouble.proofs.Chains.{stops}
use Rattle.making.specs.Forms.{tie_said}
use Rattle.making.proofs.read_tie.Goals as goal

pub returns-in_err-name : goal.returns-in_err-name
unfolding tie_said
returns-in_err-name c = stops stated c.from_residual.result c.from_residual.ensures.1 (no _ c.in_err-name.ensures)

pub returns-in_err-yes : goal.returns-in_err-yes
unfolding tie_said
returns-in_err-yes c = stops stated c.from_residual-in_err-yes.result c.from_residual-in_err-yes.ensures.1 (so _ c.in_ok-name.ensures (no _ c.in_err-yes.ensures))

pub returns-in_err-ticket : goal.returns-in_err-ticket
unfolding tie_said
returns-in_err-ticket c = stops stated c.from_residual-in_err-ticket.result c.from_residual-in_err-ticket.ensures.1 (so _ c.in_ok-name.ensures (so _ c.in_ok-yes.ensures (last_no _ c.in_err-ticket.ensures)))

pub returns : goal.returns
unfolding tie_said
returns c = so _ c.in_ok-name.ensures (so _ c.in_ok-yes.ensures ((λ i. Ok (tie_by (c.in_ok-name-2.ensures.0 i) (c.in_ok-name-2.ensures.1 i) (c.in_ok-ticket-2.ensures.0 i) (c.in_ok-ticket-2.ensures.1 i))) ∙ last_so _ c.in_ok-ticket.ensures))
