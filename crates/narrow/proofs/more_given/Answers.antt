use Rattle.narrow.proofs.Monotone.{more_given}
use Rattle.narrow.proofs.more_given.Goals as goal

pub returns : goal.returns
returns c = more_given
