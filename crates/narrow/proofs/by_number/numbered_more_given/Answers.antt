-- The theorem is proved in Numbered.Monotone.
use Rattle.narrow.proofs.Numbered.Monotone.{more_given}
use Rattle.narrow.proofs.by_number.numbered_more_given.Goals as goal

pub returns : goal.returns
returns c = more_given
