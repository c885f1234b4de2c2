use Rattle.lines.proofs.Meanings.{line_twice}
use Rattle.lines.proofs.laws.line_twice.Goals as goal

pub returns : goal.returns
returns c = line_twice
