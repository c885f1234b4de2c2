use Rattle.narrow.proofs.Given.{keys_given}
use Rattle.narrow.proofs.keys_given.Goals as goal

pub returns : goal.returns
returns c = keys_given
