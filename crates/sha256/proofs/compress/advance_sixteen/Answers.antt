use Rattle.std.proofs.Common.{◌≡◌, ◌+◌, arith}
use Rattle.sha256.proofs.compress.advance_sixteen.Goals as goal

pub returns : goal.returns
returns g c l t block m n e =
    let sixteen : t + 4 + 4 + 4 + 4 ≡ t + 16 = omega arith in
    rw sixteen at (c.advance_four-4.ensures l (t + 4 + 4 + 4) block m n (c.advance_four-3.ensures l (t + 4 + 4) block m n (c.advance_four-2.ensures l (t + 4) block m n (c.advance_four.ensures l t block m n e))))
