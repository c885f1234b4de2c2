use Rattle.std.proofs.Common.{◌/◌, ◌^◌, rules}
use Rattle.sha256.proofs.Lanes.{zip_splat_at}
use Rattle.sha256.proofs.word.U32x4Word.shift_right.Goals as goal

pub returns : goal.returns
returns c l m = zip_splat_at (λ a b. a / 2 ^ b) c.args.self 4 c.args.n l (search rules) m
