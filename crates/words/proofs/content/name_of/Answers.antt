use Rattle.std.proofs.Common.{arith}
use Rattle.parts.specs.Items.{items}
use Rattle.texts.specs.declared.Cause.TheVariants.{BadLetter}
use Rattle.words.proofs.Contents.{name_long, name_told}
use Rattle.texts.proofs.Steps.{or_told}
use Rattle.words.proofs.content.name_of.Goals as goal

pub returns-then-letters-gt32 : goal.returns-then-letters-gt32
returns-then-letters-gt32 c = name_long c.args.word.now (omega arith)

pub returns : goal.returns
returns c =
    or_told (λ n. items n) BadLetter c.new.result _ c.ok_or.ensures.value (name_told c.args.word.now (omega arith) c.new.result (rw c.as_bytes-letters.ensures.value at c.new.ensures))
