use Rattle.narrow.proofs.Monotone.{line_less}
use Rattle.narrow.proofs.line_less.Goals as goal

pub returns : goal.returns
returns c = line_less
