use Rattle.verifier.proofs.Exactly.{through_exactly}
use Rattle.verifier.proofs.through_exactly.Goals as goal

pub returns : goal.returns
returns c = through_exactly
