use Rattle.std.proofs.Common.{sym, ◌∙◌, arith, ltb-false, ltb-true}
use Rattle.std.proofs.lemmas.Bool.{cond-true, cond-false}
use Rattle.office.proofs.Asking.{none_asked, one_asked, more_asked}
use Rattle.office.proofs.arguments.read_arguments.Goals as goal

pub returns-in-empty : goal.returns-in-empty
returns-in-empty c = none_asked c.args.args.now (omega (arith, ltb-true, ltb-false))

pub returns-in-len1 : goal.returns-in-len1
returns-in-len1 c =
    sym (cond-true c.eq.result _ _ c.if-eq.true) ∙ one_asked c.args.args.now c.only-item.result _ c.eq.result (omega (arith, ltb-true, ltb-false)) c.only-item.is c.as_str.ensures.value c.eq.ensures

pub returns-in_default : goal.returns-in_default
returns-in_default c =
    sym (cond-false c.eq.result _ _ c.if-eq.false) ∙ one_asked c.args.args.now c.only-item.result _ c.eq.result (omega (arith, ltb-true, ltb-false)) c.only-item.is c.as_str.ensures.value c.eq.ensures

pub returns-in_default-2 : goal.returns-in_default-2
returns-in_default-2 c = more_asked c.args.args.now (omega (arith, ltb-true, ltb-false))
