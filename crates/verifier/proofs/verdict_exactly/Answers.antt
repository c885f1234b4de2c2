use Rattle.verifier.proofs.Exactly.{verdict_exactly}
use Rattle.verifier.proofs.verdict_exactly.Goals as goal

pub returns : goal.returns
returns c = verdict_exactly
