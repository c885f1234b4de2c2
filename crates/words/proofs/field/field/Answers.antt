use Rattle.std.proofs.Common.{◌∙◌}
use Rattle.texts.proofs.Steps.{exits, so, no, last_so, last_no}
use Rattle.words.specs.Wishes.{field_in}
use Rattle.words.proofs.field.field.Goals as goal

pub returns-in_err-word : goal.returns-in_err-word
unfolding field_in
returns-in_err-word g c = exits _ _ _ c.from_residual.ensures.1 ∙ no _ c.in_err-word.ensures

pub returns-in_err-number : goal.returns-in_err-number
unfolding field_in
returns-in_err-number g c = exits _ _ _ c.from_residual-in_err-number.ensures.1 ∙ so _ c.in_ok-word.ensures (last_no _ c.in_err-number.ensures)

pub returns : goal.returns
unfolding field_in
returns g c = so _ c.in_ok-word.ensures (last_so _ c.in_ok-number.ensures)
