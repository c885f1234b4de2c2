use Rattle.narrow.proofs.TermBytes.{same_or_broken}
use Rattle.narrow.proofs.same_or_broken.Goals as goal

pub returns : goal.returns
returns c = same_or_broken
