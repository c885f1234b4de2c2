use Rattle.std.proofs.Common.{length, replicate, sym, refl, ap, ◌∙◌, arith, length-set, length-drop}
use Rattle.rows.specs.Row.{rows}
use Rattle.verifier.proofs.Chains.{starts, goes_on, line_inside, line_here, lines_after}
use Rattle.verifier.proofs.macs.work_out.Goals as goal

pub loop-i-init : goal.loop-i-init
loop-i-init c = (refl, omega (arith, c.len-count.ensures.value, c.len-count.ensures.bound), omega (arith, ap length c.iter-line-items.ensures.lines), c.iter-line-items.ensures.lines, λ j d h. starts (replicate 33 c.args.start) c.args.start.bytes (rows c.args.lines.now) j d refl h)

pub loop-i-preserved : goal.loop-i-preserved
loop-i-preserved c =
    let ls = rows c.args.lines.now in
    let left = sym c.loop-i.invariant.3 ∙ c.in-Some.ensures.steps in
    let inside = line_inside ls _ c.loop-i.i _ left in (
      simp length-set c.loop-i.invariant.0,
      c.loop-i.invariant.1,
      omega (arith, c.loop-i.invariant.2, ap length c.in-Some.ensures.steps),
      lines_after ls _ c.loop-i.i _ left,
      goes_on c.loop-i.each c.loop-i.i c.mac.result _ c.args.start.bytes ls c.in-Some.line.now
          (omega (arith, c.loop-i.invariant.0, c.loop-i.invariant.1, inside)) inside (line_here ls _ c.loop-i.i _ left) c.loop-i.invariant.4 c.mac.ensures,
    )

pub returns-clause-each : goal.returns-clause-each
returns-clause-each c =
    let ls = rows c.args.lines.now in
    let left = sym c.loop-i.invariant.3 ∙ c.in-None.ensures.steps.0 in
    λ j d h. c.loop-i.invariant.4 j d (omega (arith, h, length-drop c.loop-i.i ls, ap length left))
