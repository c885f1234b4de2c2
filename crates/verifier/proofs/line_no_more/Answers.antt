use Rattle.verifier.proofs.NoMore.{line_no_more}
use Rattle.verifier.proofs.line_no_more.Goals as goal

pub returns : goal.returns
returns c = line_no_more
