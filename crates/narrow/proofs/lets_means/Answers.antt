use Rattle.narrow.proofs.Lets.{lets_means}
use Rattle.narrow.proofs.lets_means.Goals as goal

pub returns : goal.returns
returns c = lets_means
