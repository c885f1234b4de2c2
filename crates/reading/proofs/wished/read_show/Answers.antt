use Rattle.std.proofs.Common.{Ok, ◌∙◌}
use Rattle.words.specs.Wishes.{wish_in}
use Rattle.reading.specs.Forms.{show_said}
use Rattle.statements.specs.Said.{shown}
use Rattle.statements.specs.Views.{stated, asked_view}
use Rattle.texts.proofs.Steps.{so, no, last_so, last_no}
use Rattle.trouble.proofs.Chains.{stops, hands_on}
use Rattle.reading.proofs.Names.{same_ok}
use Rattle.reading.proofs.wished.read_show.Goals as goal

pub returns-in_err-head : goal.returns-in_err-head
unfolding show_said
returns-in_err-head c = stops stated c.from_residual.result c.from_residual.ensures.1 (no _ c.in_err-head.ensures)

pub returns-in_err-person : goal.returns-in_err-person
unfolding show_said
returns-in_err-person c =
    stops stated c.from_residual-in_err-person.result c.from_residual-in_err-person.ensures.1 (so _ c.in_ok-head.ensures (no _ c.in_err-person.ensures))

pub returns-in_err-ticket : goal.returns-in_err-ticket
unfolding show_said
returns-in_err-ticket c =
    stops stated c.from_residual-in_err-ticket.result c.from_residual-in_err-ticket.ensures.1 (so _ c.in_ok-head.ensures (so _ c.in_ok-person.ensures (no _ c.in_err-ticket.ensures)))

pub returns-in_err-wish : goal.returns-in_err-wish
unfolding show_said
returns-in_err-wish c =
    hands_on stated c.from_residual-in_err-wish.result asked_view (wish_in c.in_ok-head.tail.now) _ c.from_residual-in_err-wish.ensures.1 c.in_err-wish.ensures
    (λ k h. so _ c.in_ok-head.ensures (so _ c.in_ok-person.ensures (so _ c.in_ok-ticket.ensures (last_no _ h))))

pub returns : goal.returns
unfolding show_said
returns c =
    so _ c.in_ok-head.ensures
    (so _ c.in_ok-person.ensures
    (so _ c.in_ok-ticket.ensures
    ((λ i. Ok (shown (c.in_ok-person-2.ensures.0 i) (c.in_ok-person-2.ensures.1 i) (same_ok c.in_ok-tied.ensures i) (asked_view c.in_ok-wish.wish))) ∙ last_so _ c.in_ok-wish.ensures)))
