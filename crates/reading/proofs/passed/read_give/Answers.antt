use Rattle.std.proofs.Common.{Ok, ◌∙◌}
use Rattle.texts.specs.Cuts.{words_of}
use Rattle.texts.proofs.Steps.{so, no, last_so, last_no}
use Rattle.statements.specs.Said.{given}
use Rattle.statements.specs.Views.{stated, gifted}
use Rattle.trouble.proofs.Chains.{stops, hands_on}
use Rattle.reading.specs.Forms.{gift_said, give_said}
use Rattle.reading.specs.Views.{gift_view}
use Rattle.reading.proofs.passed.read_give.Goals as goal

pub returns-in_err-what : goal.returns-in_err-what
unfolding give_said
returns-in_err-what c = hands_on stated c.from_residual.result gift_view (gift_said (words_of c.args.text.now)) _ c.from_residual.ensures.1 c.in_err-what.ensures (λ k h. no _ h)

pub returns-in_err-from : goal.returns-in_err-from
unfolding give_said
returns-in_err-from c = stops stated c.from_residual-in_err-from.result c.from_residual-in_err-from.ensures.1 (so _ c.in_ok-what.ensures (last_no _ c.in_err-from.ensures))

pub returns : goal.returns
unfolding give_said
returns c = so _ c.in_ok-what.ensures ((λ i. Ok (given (gifted c.in_ok-what.what) (c.in_ok-from-2.ensures.0 i) (c.in_ok-from-2.ensures.1 i))) ∙ last_so _ c.in_ok-from.ensures)
