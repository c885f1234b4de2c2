use Rattle.std.proofs.Common.{refl, arith, ltb-false, ltb-true}
use Rattle.printing.proofs.Texts.{nothing_put, no_list, one_more, whole_list}
use Rattle.printing.proofs.write_list.Goals as goal

pub returns-in_default : goal.returns-in_default
returns-in_default g c = λ plain ok. no_list g.W.Write.write_str_gives c.args.f.now c.args.numbers.now (omega (arith, ltb-true, ltb-false)) plain

pub loop-number-init : goal.loop-number-init
loop-number-init g c = λ plain. nothing_put g.W.Write.write_str_gives c.write.new.self plain

pub loop-number-preserved : goal.loop-number-preserved
loop-number-preserved g c =
    λ plain. let old = c.loop-number.invariant plain in
    one_more g.W.Write.write_str_gives c.write.new.self c.loop-number.f c.write-in-loop-number.new.self _ c.loop-number.number-index c.loop-number-test.true old
    (c.in_ok-write-2.ensures.writes old.plain refl)

pub returns : goal.returns
returns g c =
    λ plain ok. let first = c.in_ok-write.ensures.writes plain refl in
    whole_list g.W.Write.write_str_gives c.args.f.now c.write.new.self c.loop-number.f c.args.numbers.now c.loop-number.number-index (omega (arith, ltb-true, ltb-false)) c.loop-number-test.false first
    (c.loop-number.invariant first.plain)
