-- The theorem is proved in Numbered.Parts.
use Rattle.narrow.proofs.Numbered.Parts.{ticket_given}
use Rattle.narrow.proofs.by_number.numbered_ticket_given.Goals as goal

pub returns : goal.returns
returns c = ticket_given
