use Rattle.narrow.proofs.Exact.{sound}
use Rattle.narrow.proofs.sound.Goals as goal

pub returns : goal.returns
returns c = sound
