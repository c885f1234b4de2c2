use Rattle.narrow.proofs.Given.{tie_given}
use Rattle.narrow.proofs.tie_given.Goals as goal

pub returns : goal.returns
returns c = tie_given
