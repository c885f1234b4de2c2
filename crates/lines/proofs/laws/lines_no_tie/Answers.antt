use Rattle.lines.proofs.Meanings.{lines_no_tie}
use Rattle.lines.proofs.laws.lines_no_tie.Goals as goal

pub returns : goal.returns
returns c = lines_no_tie
