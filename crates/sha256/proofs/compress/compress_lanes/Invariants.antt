use Rattle.std.proofs.Common.{ℕ, ◌*◌, ◌<◌, map}
use Rattle.sha256.specs.Stages.{Underway}
use Rattle.sha256.proofs.compress.compress_lanes.Given as goal

abbrev pub invariant-loop-i : goal.invariant-loop-i
invariant-loop-i g s =
    (l : ℕ) → l < g.W.Word.lanes → Underway (16 * s.i) 0 (map (g.W.Word.lane l) s.initial.w) (map (g.W.Word.lane l) s.h) (map (g.W.Word.lane l) s.v) (map (g.W.Word.lane l) s.w)
