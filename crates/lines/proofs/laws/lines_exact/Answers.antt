use Rattle.lines.proofs.Meanings.{lines_exact}
use Rattle.lines.proofs.laws.lines_exact.Goals as goal

pub returns : goal.returns
returns c = lines_exact
