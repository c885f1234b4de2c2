use Rattle.std.proofs.Common.{◌≡◌, ◌+◌, arith}
use Rattle.sha256.proofs.Schedule.{window_more}
use Rattle.sha256.proofs.compress.advance_four.Goals as goal

pub returns : goal.returns
returns g c l t block m n e =
    let four : t + 1 + 1 + 1 + 1 ≡ t + 4 = omega arith in
    cc (c.advance.ensures l m, c.advance-2.ensures l m, c.advance-3.ensures l m, c.advance-4.ensures l m, window_more t block n, window_more (t + 1) block n, window_more (t + 1 + 1) block n, window_more (t + 1 + 1 + 1) block n)
