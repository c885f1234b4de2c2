use Rattle.std.proofs.Common.{◌≡◌, ℕ, ◌+◌, ◌*◌, map, length, arith, rules, ◌∙◌, ap}
use lib.Lanes.{zip2}
use Rattle.std.proofs.lemmas.List.{length-map}
use Rattle.sha256.specs.Stages.{Underway}
use Rattle.sha256.specs.Sha256.{◌⊞◌, compressed}
use Rattle.sha256.proofs.Schedule.{underway_none, underway_next}
use Rattle.sha256.proofs.compress.compress_lanes.Goals as goal

pub loop-i-init : goal.loop-i-init
loop-i-init g c l m =
    let n : length c.args.block ≡ 16 = search rules in
    underway_none (map (g.W.Word.lane l) c.args.block) (map (g.W.Word.lane l) c.args.h) (length-map c.args.block (g.W.Word.lane l) ∙ n)

pub loop-i-preserved : goal.loop-i-preserved
loop-i-preserved g c l m =
    let lane = map (g.W.Word.lane l) in
    let b = lane c.args.block in
    let t : ℕ = 16 * c.loop-i.i in
    let e : 16 * (c.loop-i.i + 1) ≡ t + 16 = omega arith in
    let u = c.loop-i.invariant l m in
    let done = c.sixteen_steps-v.ensures l b (lane c.args.h) m u in
    rw e (underway_next t b (lane c.args.h) _ _ _ (c.advance_sixteen-w.ensures l t b m u.sixteen u.words) done)

pub returns : goal.returns
unfolding compressed
returns g c l m =
    let lane = map (g.W.Word.lane l) in
    let i : c.loop-i.i ≡ 3 = omega arith in
    let u : Underway 48 0 (lane c.args.block) (lane c.args.h) (lane c.loop-i.v) (lane c.loop-i.w) = rw i at (c.loop-i.invariant l m) in
    let e = c.sixteen_steps.ensures l (lane c.args.block) (lane c.args.h) m u in
    c.sum.ensures l m ∙ ap (zip2 ◌⊞◌ (lane c.args.h)) e.variables
