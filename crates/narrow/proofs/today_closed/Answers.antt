use Rattle.narrow.proofs.Lets.{today_closed}
use Rattle.narrow.proofs.today_closed.Goals as goal

pub returns : goal.returns
returns c = today_closed
