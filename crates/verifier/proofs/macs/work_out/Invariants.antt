use Rattle.std.proofs.Common.{◌≡◌, ℕ, ◌+◌, ◌≤◌, length, get_or, take, drop}
use Rattle.hmac.specs.declared.Mac.{Mac}
use Rattle.rows.specs.Each.{lines_left}
use Rattle.rows.specs.Row.{rows}
use Rattle.verifier.specs.Chain.{chained}
use Rattle.verifier.proofs.macs.work_out.Given as goal

-- those up to here are right
abbrev pub invariant-loop-i : goal.invariant-loop-i
invariant-loop-i l =
    (length l.each ≡ 33) × (length (rows l.lines) ≤ 32) × (l.i + length (lines_left l.line-iterator) ≡ length (rows l.lines)) × (lines_left l.line-iterator ≡ drop l.i (rows l.lines)) ×
    ((j : ℕ) (d : Mac) → j ≤ l.i → (get_or l.each j d).bytes ≡ chained (get_or l.initial.each 0 d).bytes (take j (rows l.lines)))
