use Rattle.narrow.proofs.TermBytes.{formats_apart}
use Rattle.narrow.proofs.formats_apart.Goals as goal

pub returns : goal.returns
returns c = formats_apart
