use Rattle.lines.proofs.Meanings.{names_apart}
use Rattle.lines.proofs.laws.names_apart.Goals as goal

pub returns : goal.returns
returns c = names_apart
