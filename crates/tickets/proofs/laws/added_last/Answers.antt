use Rattle.tickets.proofs.Rightly.{added_last}
use Rattle.tickets.proofs.laws.added_last.Goals as goal

pub returns : goal.returns
returns c = added_last
