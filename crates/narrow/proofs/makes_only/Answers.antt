use Rattle.narrow.proofs.Given.{makes_only}
use Rattle.narrow.proofs.makes_only.Goals as goal

pub returns : goal.returns
returns c = makes_only
