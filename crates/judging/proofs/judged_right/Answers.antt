use Rattle.judging.proofs.Causes.{judged_right}
use Rattle.judging.proofs.judged_right.Goals as goal

pub returns : goal.returns
returns c = judged_right
