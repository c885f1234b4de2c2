use Rattle.narrow.proofs.TermBytes.{shown_or_broken}
use Rattle.narrow.proofs.shown_or_broken.Goals as goal

pub returns : goal.returns
returns c = shown_or_broken
