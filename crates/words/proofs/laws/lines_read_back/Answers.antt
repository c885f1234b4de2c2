use Rattle.words.proofs.Back.{line_back}
use Rattle.words.proofs.laws.lines_read_back.Goals as goal

pub returns : goal.returns
returns c = line_back
