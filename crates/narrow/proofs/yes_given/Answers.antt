use Rattle.narrow.proofs.Given.{yes_given}
use Rattle.narrow.proofs.yes_given.Goals as goal

pub returns : goal.returns
returns c = yes_given
