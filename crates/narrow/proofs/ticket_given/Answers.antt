use Rattle.narrow.proofs.Given.{ticket_given}
use Rattle.narrow.proofs.ticket_given.Goals as goal

pub returns : goal.returns
returns c = ticket_given
