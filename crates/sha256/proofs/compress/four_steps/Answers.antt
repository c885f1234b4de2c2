use Rattle.std.proofs.Common.{ℕ, ◌+◌, List, map, add_assoc}
use Rattle.sha256.specs.Stages.{Underway}
use Rattle.sha256.proofs.compress.four_steps.Goals as goal

on : (t j i : ℕ) (block h v w : List ℕ) → Underway t (j + i + 1) block h v w → Underway t (j + (i + 1)) block h v w
on t j i block h v w u = rw add_assoc at u

pub returns : goal.returns
returns g c l block h m u =
    let lane = map (g.W.Word.lane l) in
    let t = c.args.t in
    let j = c.args.j in
    let w = lane c.args.w in
    let u₂ = on t j 1 block h _ w (c.step-v-2.ensures l block h m (c.step-v.ensures l block h m u)) in
    let u₃ = on t j 2 block h _ w (c.step-v-3.ensures l block h m u₂) in
    on t j 3 block h _ w (c.step.ensures l block h m u₃)
