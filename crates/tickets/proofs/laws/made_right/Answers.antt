use Rattle.tickets.proofs.Rightly.{made_right}
use Rattle.tickets.proofs.laws.made_right.Goals as goal

pub returns : goal.returns
returns c = made_right
