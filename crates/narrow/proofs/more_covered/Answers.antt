use Rattle.narrow.proofs.Monotone.{more_covered}
use Rattle.narrow.proofs.more_covered.Goals as goal

pub returns : goal.returns
returns c = more_covered
