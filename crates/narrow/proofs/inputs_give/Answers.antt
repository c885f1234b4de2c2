use Rattle.narrow.proofs.TermBytes.{inputs_give}
use Rattle.narrow.proofs.inputs_give.Goals as goal

pub returns : goal.returns
returns c = inputs_give
