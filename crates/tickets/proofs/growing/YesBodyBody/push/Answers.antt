use Rattle.std.proofs.lemmas.Result.{MatchResult-weaker}
use Rattle.rows.specs.Row.{rows}
use Rattle.tickets.proofs.Changed.{one_place, longer_at, yes_back}
use Rattle.tickets.proofs.growing.YesBodyBody.push.Goals as goal

pub returns : goal.returns
returns c =
    let before = c.args.self.now in
    let at = one_place _ before.limits.place before.stands in
    MatchResult-weaker c.push.result c.push.ensures.added
    (λ _ e. longer_at _ _ _ (rows before.limits) c.args.limit.now _ at e)
    (λ f q. (longer_at _ _ _ (rows before.limits) c.args.limit.now _ at q.0, yes_back before c.push.new.self _ q.1))
