use Rattle.std.proofs.Common.{◌≡◌, length, lit<, rules}
use Rattle.sha256.specs.Sha256.{round}
use Rattle.sha256.proofs.Lanes.{lane_at}
use Rattle.sha256.proofs.compress.round.Goals as goal

pub returns : goal.returns
unfolding round
returns g c l m =
    let v = c.args.v in
    let at = lane_at (g.W.Word.lane l) v in
    let n : length v ≡ 8 = search rules in
    cc (at 0 8 c.index-v-0.result n (lit< tt), at 1 8 c.index-v-1.result n (lit< tt), at 2 8 c.index-v-2.result n (lit< tt), at 3 8 c.index-v-3.result n (lit< tt), at 4 8 c.index-v-4.result n (lit< tt), at 5 8 c.index-v-5.result n (lit< tt), at 6 8 c.index-v-6.result n (lit< tt), at 7 8 c.index-v-7.result n (lit< tt), c.big_sigma.ensures l m, c.plus.ensures l m, c.ch.ensures l m, c.plus-2.ensures l m, c.splat.ensures l m, c.plus-3.ensures l m, c.plus-t1.ensures l m, c.big_sigma-2.ensures l m, c.maj.ensures l m, c.plus-t2.ensures l m, c.plus-4.ensures l m, c.plus-5.ensures l m)
