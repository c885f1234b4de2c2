use Rattle.std.proofs.Common.{◌∙◌}
use Rattle.texts.specs.Labels.{no_more, only_after}
use Rattle.texts.proofs.Steps.{exits, so, no}
use Rattle.texts.proofs.labels.only_after.Goals as goal

pub returns-in_err-word : goal.returns-in_err-word
unfolding only_after
returns-in_err-word c = exits c.from_residual.result _ _ c.from_residual.ensures.1 ∙ no _ c.in_err-word.ensures

pub returns : goal.returns
unfolding only_after
returns c = so (λ p. no_more p.0 p.1) c.in_ok-word.ensures c.last_of.ensures
