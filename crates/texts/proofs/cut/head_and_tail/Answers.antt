use Rattle.std.proofs.Common.{arith}
use Rattle.texts.specs.declared.Cause.TheVariants.{MissingWord}
use Rattle.texts.specs.Cuts.{head_tail}
use Rattle.texts.specs.Results.{both_parts}
use Rattle.texts.proofs.Cuts.{split_is}
use Rattle.texts.proofs.Steps.{or_is}
use Rattle.texts.proofs.cut.head_and_tail.Goals as goal

pub returns : goal.returns
unfolding head_tail
returns c = or_is both_parts MissingWord c.split_once.result _ (split_is 58 (omega arith) c.args.text.now c.split_once.result c.split_once.ensures.cases) c.ok_or.ensures.value
