use Rattle.std.proofs.Common.{◌≡◌, ◌+◌, map, length, get_or, rules}
use Rattle.sha256.specs.Constants.{constants}
use Rattle.sha256.specs.Sha256.{round}
use Rattle.sha256.proofs.Lanes.{lane_at}
use Rattle.sha256.proofs.Schedule.{underway_more}
use Rattle.sha256.proofs.compress.step.Goals as goal

pub returns : goal.returns
returns g c l block h m u =
    let lane = g.W.Word.lane l in
    let t = c.args.t in
    let j = c.args.j in
    let n : length c.args.w ≡ 16 = search rules in
    let word = lane_at lane c.args.w j 16 c.index-w-j.result n c.requires.j in
    let r : map lane c.round.result ≡ round (get_or constants (t + j) 0) (get_or (map lane c.args.w) j 0) (map lane c.args.v) = rw (← word) (c.round.ensures l m) in
    underway_more t j block h (map lane c.args.v) (map lane c.args.w) (map lane c.round.result) c.requires.t c.requires.j r u
