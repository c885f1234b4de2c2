use Rattle.showing.proofs.Shows.{shown_exact}
use Rattle.showing.proofs.shown_exact.Goals as goal

pub returns : goal.returns
returns c = shown_exact
