use Rattle.std.proofs.Common.{◌≡◌, sym, ap, ◌∙◌}
use Rattle.std.proofs.lemmas.Bool.{cond-true}
use Rattle.tickets.specs.Made.{Secrets}
use Rattle.showing.specs.declared.shown.Shown.{Shown}
use Rattle.showing.specs.Showing.{ShownView}
use Rattle.showing.specs.Views.{shown_view}
use Rattle.verifier.specs.Stages.{secrets, Passes}
use Rattle.verifier.specs.Verdict.{right_mac, known_keys, right_ties, by_lines, verdict_on}
use Rattle.verifier.proofs.verdict_on.Goals as goal

-- what is right comes to what its lines come to
passed : (s : Secrets) (v : ShownView) → Passes s v → verdict_on s v ≡ by_lines v
unfolding verdict_on
passed s v p = cond-true (right_mac s v.ticket) _ _ p.mac ∙ (cond-true (known_keys s v.yeses) _ _ p.known ∙ cond-true (right_ties s v.ticket.of v.yeses) _ _ p.ties)

pub returns : goal.returns
returns c =
    c.by_lines.ensures ∙ (ap (λ (v : Shown). by_lines (shown_view v)) c.in_ok-check.ensures.0 ∙ sym (passed (secrets c.args.book.now) (shown_view c.args.shown) c.in_ok-check.ensures.1))
