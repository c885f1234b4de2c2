use Rattle.lines.proofs.Meanings.{lines_back}
use Rattle.lines.proofs.laws.lines_back.Goals as goal

pub returns : goal.returns
returns c = lines_back
