use Rattle.narrow.proofs.Lets.{shown_narrower}
use Rattle.narrow.proofs.shown_narrower.Goals as goal

pub returns : goal.returns
returns c = shown_narrower
