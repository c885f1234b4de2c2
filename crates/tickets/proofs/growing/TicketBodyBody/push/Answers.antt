use Rattle.std.proofs.Common.{ap, ◌∙◌}
use Rattle.std.proofs.lemmas.Result.{MatchResult-weaker}
use Rattle.rows.specs.Row.{rows}
use Rattle.tickets.specs.Places.{on_ticket}
use Rattle.tickets.proofs.Changed.{one_place, longer_at, ticket_back, still_some}
use Rattle.tickets.proofs.growing.TicketBodyBody.push.Goals as goal

pub invariant_of-self : goal.invariant_of-self
invariant_of-self c = record {
  stands = ap on_ticket c.push.ensures.place ∙ c.args.self.now.stands;
  some = still_some c.push.result c.args.self.now.lines.place c.args.self.now.lines c.push.new.self c.args.line.now c.args.self.now.some c.push.ensures.added;
}

pub returns : goal.returns
returns c =
    let before = c.args.self.now in
    let at = one_place _ before.lines.place before.stands in
    MatchResult-weaker c.push.result c.push.ensures.added
    (λ _ e. longer_at _ _ _ (rows before.lines) c.args.line.now _ at e)
    (λ f q. (longer_at _ _ _ (rows before.lines) c.args.line.now _ at q.0, ticket_back before c.push.new.self _ _ q.1))
