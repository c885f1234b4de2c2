use Rattle.std.proofs.Common.{Ok, ◌∙◌}
use Rattle.making.specs.Cuts.{lines_in}
use Rattle.texts.proofs.Steps.{so, no, last_so, last_no}
use Rattle.statements.specs.Said.{add_by}
use Rattle.statements.specs.Views.{stated, lines_view}
use Rattle.trouble.proofs.Chains.{stops, hands_on}
use Rattle.making.specs.Forms.{add_said}
use Rattle.making.proofs.read_add.Goals as goal

pub returns-in_err-parts : goal.returns-in_err-parts
unfolding add_said
returns-in_err-parts c = stops stated c.from_residual.result c.from_residual.ensures.1 (no _ c.in_err-parts.ensures)

pub returns-in_err-lines : goal.returns-in_err-lines
unfolding add_said
returns-in_err-lines c = hands_on stated c.from_residual-in_err-lines.result lines_view (lines_in c.in_ok-parts.parts.front.now) _ c.from_residual-in_err-lines.ensures.1 c.in_err-lines.ensures (λ k h. so _ c.in_ok-parts.ensures (last_no _ h))

pub returns : goal.returns
unfolding add_said
returns c = so _ c.in_ok-parts.ensures ((λ i. Ok (add_by (c.in_ok-name.ensures.0 i) (c.in_ok-name.ensures.1 i) (lines_view c.in_ok-lines.lines) (c.in_ok-person.ensures.ok i))) ∙ last_so _ c.in_ok-lines.ensures)
