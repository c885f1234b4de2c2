-- The theorem is proved in Numbered.Monotone.
use Rattle.narrow.proofs.Numbered.Monotone.{narrower}
use Rattle.narrow.proofs.by_number.numbered_narrower.Goals as goal

pub returns : goal.returns
returns c = narrower
