use Rattle.narrow.proofs.Monotone.{more_holds}
use Rattle.narrow.proofs.more_holds.Goals as goal

pub returns : goal.returns
returns c = more_holds
