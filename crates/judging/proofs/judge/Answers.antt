use Rattle.std.proofs.Common.{◌≡◌, position, sym, refl, ◌∙◌, rules, tests}
use Rattle.lines.specs.Meaning.{says}
use Rattle.rows.specs.Row.{rows}
use Rattle.wishes.specs.Views.{wish_view}
use Rattle.judging.specs.Judged.{limit_fails, else_fails, some_yes, some_holds}
use Rattle.judging.specs.Views.{bodies}
use Rattle.judging.proofs.Causes.{judged_right, places}
use Rattle.judging.proofs.judge.Goals as goal
use Rattle.judging.proofs.judge.Goals.{After-first_failing, After-first_failing-2, After-first_failing-3}

-- where each of the three searches came to
limit : (c : After-first_failing) → c.first_failing.result ≡ position (λ l. limit_fails (says (wish_view c.args.wish) l)) (rows c.args.ticket.now.lines)
limit c = c.first_failing.ensures _ (λ x b k. search (rules, tests))

yes : (c : After-first_failing-2) → c.first_failing-2.result ≡ position (λ l. else_fails (some_yes (bodies c.args.yeses.now)) (says (wish_view c.args.wish) l)) (rows c.args.ticket.now.lines)
yes c = c.first_failing-2.ensures _ (λ x b k. search (rules, tests))

held : (c : After-first_failing-3) →
    c.first_failing-3.result ≡ position (λ l. else_fails (some_holds (says (wish_view c.args.wish)) (bodies c.args.yeses.now)) (says (wish_view c.args.wish) l)) (rows c.args.ticket.now.lines)
held c = c.first_failing-3.ensures _ (λ x b k. search (rules, tests))

pub returns-in-Some : goal.returns-in-Some
returns-in-Some c =
    let at = goal.at.returns-in-Some c in
    record { value = sym (places _ _ _ _ _ _ (sym (limit at.After-first_failing) ∙ c.in-Some.is) refl refl); right = judged_right _ _ _ }

pub returns-in-Some-first_failing : goal.returns-in-Some-first_failing
returns-in-Some-first_failing c =
    let at = goal.at.returns-in-Some-first_failing c in
    record { value = sym (places _ _ _ _ _ _ (sym (limit at.After-first_failing) ∙ c.in_default.is) (sym (yes at.After-first_failing-2) ∙ c.in-Some-first_failing.is) refl); right = judged_right _ _ _ }

pub returns-in-Some-first_failing-2 : goal.returns-in-Some-first_failing-2
returns-in-Some-first_failing-2 c =
    let at = goal.at.returns-in-Some-first_failing-2 c in
    record { value = sym (places _ _ _ _ _ _ (sym (limit at.After-first_failing) ∙ c.in_default.is) (sym (yes at.After-first_failing-2) ∙ c.in_default-first_failing.is) (sym (held at.After-first_failing-3) ∙ c.in-Some-first_failing-2.is)); right = judged_right _ _ _ }

pub returns : goal.returns
returns c =
    let at = goal.at.returns c in
    record { value = sym (places _ _ _ _ _ _ (sym (limit at.After-first_failing) ∙ c.in_default.is) (sym (yes at.After-first_failing-2) ∙ c.in_default-first_failing.is) (sym (held at.After-first_failing-3) ∙ c.in_default-first_failing-2.is)); right = judged_right _ _ _ }
