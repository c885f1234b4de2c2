-- The theorem is proved in Numbered.Parts.
use Rattle.narrow.proofs.Numbered.Parts.{yes_given}
use Rattle.narrow.proofs.by_number.numbered_yes_given.Goals as goal

pub returns : goal.returns
returns c = yes_given
