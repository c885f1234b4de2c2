use Rattle.std.proofs.Common.{◌∙◌, rules}
use Rattle.texts.specs.declared.Cause.TheVariants.{TooLarge}
use Rattle.texts.proofs.Digits.{not_wide, converted}
use Rattle.texts.proofs.Steps.{err_exits, told_as}
use Rattle.texts.proofs.numeral.number.Goals as goal

pub returns-in_err-wide_number : goal.returns-in_err-wide_number
returns-in_err-wide_number g c = err_exits c.from_residual.result _ c.from_residual.ensures.1 ∙ not_wide g.met.N.Unsigned.holds c.args.word.now _ c.in_err-wide_number.ensures

pub returns : goal.returns
returns g c =
    told_as TooLarge c.try_from.result c.map_err.result c.map_err.ensures.cases (λ d e k. search rules)
    ∙ converted g.met.N.Unsigned.holds c.args.word.now _ c.in_ok-wide_number.ensures c.try_from.result c.try_from.ensures
