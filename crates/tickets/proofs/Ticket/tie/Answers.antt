use Rattle.std.proofs.Common.{refl, ap, ◌∙◌}
use Rattle.narrow.specs.Term.{Bytes}
use Rattle.tickets.specs.Making.{tied}
use Rattle.tickets.specs.Views.{ticket_view, yes_view}
use Rattle.tickets.proofs.Rightly.{right_tie}
use Rattle.tickets.proofs.Ticket.tie.Goals as goal

pub returns : goal.returns
unfolding tied
returns c =
    let ticket = ticket_view c.args.self.now in
    let yes = yes_view c.args.yes.now in
    record {
      ticket = refl;
      yes = ap (λ (b : Bytes). record { of = yes.of; mac = b }) c.tie-tie.ensures;
      right = λ s r q. c.tie-tie.ensures ∙ right_tie s ticket yes r q;
    }
