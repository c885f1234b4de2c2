use Rattle.narrow.proofs.Given.{makes_within}
use Rattle.narrow.proofs.makes_within.Goals as goal

pub returns : goal.returns
returns c = makes_within
