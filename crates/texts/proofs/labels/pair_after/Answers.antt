use Rattle.std.proofs.Common.{◌∙◌}
use Rattle.texts.specs.Labels.{pair_after}
use Rattle.texts.proofs.Steps.{exits, so, no, last_so, last_no}
use Rattle.texts.proofs.labels.pair_after.Goals as goal

pub returns-in_err-word : goal.returns-in_err-word
unfolding pair_after
returns-in_err-word c = exits c.from_residual.result _ _ c.from_residual.ensures.1 ∙ no _ c.in_err-word.ensures

pub returns-in_err-only_after : goal.returns-in_err-only_after
unfolding pair_after
returns-in_err-only_after c =
    exits c.from_residual-in_err-only_after.result _ _ c.from_residual-in_err-only_after.ensures.1 ∙ so _ c.in_ok-word.ensures (last_no _ c.in_err-only_after.ensures)

pub returns : goal.returns
unfolding pair_after
returns c = so _ c.in_ok-word.ensures (last_so _ c.in_ok-only_after.ensures)
