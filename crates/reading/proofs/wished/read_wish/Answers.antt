use Rattle.std.proofs.Common.{Ok, ◌∙◌}
use Rattle.words.specs.Wishes.{wish_in}
use Rattle.texts.proofs.Steps.{so, no, last_so, last_no}
use Rattle.statements.specs.Said.{wish_of}
use Rattle.statements.specs.Views.{stated, asked_view}
use Rattle.trouble.proofs.Chains.{stops, hands_on}
use Rattle.reading.specs.Forms.{wish_said}
use Rattle.reading.proofs.wished.read_wish.Goals as goal

pub returns-in_err-head : goal.returns-in_err-head
unfolding wish_said
returns-in_err-head c = stops stated c.from_residual.result c.from_residual.ensures.1 (no _ c.in_err-head.ensures)

pub returns-in_err-person : goal.returns-in_err-person
unfolding wish_said
returns-in_err-person c = stops stated c.from_residual-in_err-person.result c.from_residual-in_err-person.ensures.1 (so _ c.in_ok-head.ensures (no _ c.in_err-person.ensures))

pub returns-in_err-wish : goal.returns-in_err-wish
unfolding wish_said
returns-in_err-wish c = hands_on stated c.from_residual-in_err-wish.result asked_view (wish_in c.in_ok-head.tail.now) _ c.from_residual-in_err-wish.ensures.1 c.in_err-wish.ensures (λ k h. so _ c.in_ok-head.ensures (so _ c.in_ok-person.ensures (last_no _ h)))

pub returns : goal.returns
unfolding wish_said
returns c = so _ c.in_ok-head.ensures (so _ c.in_ok-person.ensures ((λ i. Ok (wish_of (c.in_ok-from_str.ensures.ok i) (asked_view c.in_ok-wish.wish))) ∙ last_so _ c.in_ok-wish.ensures))
