use Rattle.wishes.proofs.Told.{wishes_exact}
use Rattle.wishes.proofs.laws.wishes_exact.Goals as goal

pub returns : goal.returns
returns c = wishes_exact
