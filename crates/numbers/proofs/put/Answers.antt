use Rattle.std.proofs.Common.{arith}
use Rattle.numbers.proofs.put.Goals as goal

pub to_bytes-requires : goal.to_bytes-requires
to_bytes-requires g c = omega (arith, g.met.T.Number.laws.narrow)

pub first_chunk_mut-requires : goal.first_chunk_mut-requires
first_chunk_mut-requires g c = omega (arith, g.met.T.Number.laws.narrow)
