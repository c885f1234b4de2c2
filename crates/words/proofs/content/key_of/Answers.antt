use Rattle.std.proofs.Common.{◌∙◌}
use Rattle.texts.specs.declared.Cause.TheVariants.{NoSuchKey}
use Rattle.words.proofs.Contents.{key_fails, key_told}
use Rattle.texts.proofs.Steps.{exits, or_told}
use Rattle.words.proofs.content.key_of.Goals as goal

pub returns-in_err-number : goal.returns-in_err-number
returns-in_err-number c = exits c.from_residual.result _ _ c.from_residual.ensures.1 ∙ key_fails c.args.word.now _ c.in_err-number.ensures

pub returns : goal.returns
returns c = or_told (λ k. k.number) NoSuchKey c.new.result _ c.ok_or.ensures.value (key_told c.args.word.now _ c.in_ok-number.ensures c.new.result c.new.ensures)
