use Rattle.lines.proofs.Told.{format_tells}
use Rattle.lines.proofs.laws.format_tells.Goals as goal

pub returns : goal.returns
returns c = format_tells
