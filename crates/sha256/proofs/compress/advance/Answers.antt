use Rattle.std.proofs.Common.{◌≡◌, length, lit<, rules}
use Rattle.sha256.specs.Stages.{advanced}
use Rattle.sha256.proofs.Lanes.{lane_at}
use Rattle.sha256.proofs.compress.advance.Goals as goal

pub returns : goal.returns
unfolding advanced
returns g c l m =
    let w = c.args.w in
    let at = lane_at (g.W.Word.lane l) w in
    let n : length w ≡ 16 = search rules in
    cc (at 0 16 c.index-w-0.result n (lit< tt), at 1 16 c.index-w-1.result n (lit< tt), at 2 16 c.index-w-2.result n (lit< tt), at 3 16 c.index-w-3.result n (lit< tt), at 4 16 c.index-w-4.result n (lit< tt), at 5 16 c.index-w-5.result n (lit< tt), at 6 16 c.index-w-6.result n (lit< tt), at 7 16 c.index-w-7.result n (lit< tt), at 8 16 c.index-w-8.result n (lit< tt), at 9 16 c.index-w-9.result n (lit< tt), at 10 16 c.index-w-10.result n (lit< tt), at 11 16 c.index-w-11.result n (lit< tt), at 12 16 c.index-w-12.result n (lit< tt), at 13 16 c.index-w-13.result n (lit< tt), at 14 16 c.index-w-14.result n (lit< tt), at 15 16 c.index-w-15.result n (lit< tt), c.sigma.ensures l m, c.plus.ensures l m, c.sigma-2.ensures l m, c.plus-2.ensures l m, c.plus-next.ensures l m)
