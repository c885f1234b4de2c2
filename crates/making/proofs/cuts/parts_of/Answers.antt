use Rattle.std.proofs.Common.{◌∙◌}
use Rattle.texts.proofs.Steps.{exits, so, no, last_so, last_no}
use Rattle.making.specs.Cuts.{parts_in}
use Rattle.making.proofs.cuts.parts_of.Goals as goal

pub returns-in_err-head : goal.returns-in_err-head
unfolding parts_in
returns-in_err-head c = exits c.from_residual.result _ _ c.from_residual.ensures.1 ∙ no _ c.in_err-head.ensures

pub returns-in_err-name : goal.returns-in_err-name
unfolding parts_in
returns-in_err-name c =
    exits c.from_residual-in_err-name.result _ _ c.from_residual-in_err-name.ensures.1 ∙ so _ c.in_ok-head.ensures (no _ c.in_err-name.ensures)

pub returns-in_err-front : goal.returns-in_err-front
unfolding parts_in
returns-in_err-front c =
    exits c.from_residual-in_err-front.result _ _ c.from_residual-in_err-front.ensures.1
    ∙ so _ c.in_ok-head.ensures (so _ c.in_ok-name.ensures (last_no _ c.in_err-front.ensures))

pub returns : goal.returns
unfolding parts_in
returns c = so _ c.in_ok-head.ensures (so _ c.in_ok-name.ensures (last_so _ c.in_ok-front.ensures))
