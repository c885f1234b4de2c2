use Rattle.std.proofs.Common.{sym, ◌∙◌, rules}
use Rattle.texts.specs.declared.Cause.TheVariants.{TooLarge}
use Rattle.texts.proofs.Digits.{number_none, parsed}
use Rattle.texts.proofs.Steps.{told_as}
use Rattle.texts.proofs.numeral.wide_number.Goals as goal

pub returns-then-not-is_numeral : goal.returns-then-not-is_numeral
returns-then-not-is_numeral c = number_none (λ n. n) 4294967295 c.args.word.now (sym c.if-not-is_numeral.ensures)

pub returns : goal.returns
returns c =
    told_as TooLarge c.parse.result c.map_err.result c.map_err.ensures.cases (λ d e k. search rules)
    ∙ parsed c.args.word.now (sym c.if-not-is_numeral.ensures) c.parse.result c.parse.ensures.value.0
