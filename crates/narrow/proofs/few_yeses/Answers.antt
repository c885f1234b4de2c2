use Rattle.narrow.proofs.Exact.{few_yeses}
use Rattle.narrow.proofs.few_yeses.Goals as goal

pub returns : goal.returns
returns c = few_yeses
