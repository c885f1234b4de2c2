use Rattle.std.proofs.Common.{Ok, ◌∙◌}
use Rattle.making.specs.Cuts.{limits_in}
use Rattle.texts.proofs.Steps.{so, no, last_so, last_no}
use Rattle.statements.specs.Said.{yes_by}
use Rattle.statements.specs.Views.{stated, lines_view}
use Rattle.trouble.proofs.Chains.{stops, hands_on}
use Rattle.making.specs.Forms.{yes_said}
use Rattle.making.proofs.read_yes.Goals as goal

pub returns-in_err-parts : goal.returns-in_err-parts
unfolding yes_said
returns-in_err-parts c = stops stated c.from_residual.result c.from_residual.ensures.1 (no _ c.in_err-parts.ensures)

pub returns-in_err-key : goal.returns-in_err-key
unfolding yes_said
returns-in_err-key c = stops stated c.from_residual-in_err-key.result c.from_residual-in_err-key.ensures.1 (so _ c.in_ok-parts.ensures (no _ c.in_err-key.ensures))

pub returns-in_err-limits : goal.returns-in_err-limits
unfolding yes_said
returns-in_err-limits c = hands_on stated c.from_residual-in_err-limits.result lines_view (limits_in c.in_ok-parts.parts.front.now) _ c.from_residual-in_err-limits.ensures.1 c.in_err-limits.ensures (λ k h. so _ c.in_ok-parts.ensures (so _ c.in_ok-key.ensures (last_no _ h)))

pub returns : goal.returns
unfolding yes_said
returns c = so _ c.in_ok-parts.ensures (so _ c.in_ok-key.ensures ((λ i. Ok (yes_by (c.in_ok-name.ensures.0 i) c.in_ok-key.key.number (lines_view c.in_ok-limits.limits) (c.in_ok-name.ensures.1 i))) ∙ last_so _ c.in_ok-limits.ensures))
