use Rattle.narrow.proofs.Exact.{complete}
use Rattle.narrow.proofs.complete.Goals as goal

pub returns : goal.returns
returns c = complete
