use Rattle.narrow.proofs.Exact.{attackers_meet}
use Rattle.narrow.proofs.attackers_meet.Goals as goal

pub returns : goal.returns
returns c = attackers_meet
