use Rattle.codec.proofs.EachKind.{formats_exact}
use Rattle.codec.proofs.formats_exact.Goals as goal

pub returns : goal.returns
returns c = formats_exact
