use Rattle.std.proofs.Common.{arith}
use Rattle.numbers.proofs.read.Goals as goal

pub split_first_chunk-requires : goal.split_first_chunk-requires
split_first_chunk-requires g c = omega (arith, g.met.T.Number.laws.narrow)
