use Rattle.narrow.proofs.TermBytes.{can_or_broken}
use Rattle.narrow.proofs.can_or_broken.Goals as goal

pub returns : goal.returns
returns c = can_or_broken
