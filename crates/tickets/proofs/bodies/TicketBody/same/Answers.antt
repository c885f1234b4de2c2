use Rattle.std.proofs.Common.{refl, ◌∙◌}
use Rattle.std.proofs.lemmas.Bool.Decides.{Decides-eqb}
use Rattle.std.proofs.lemmas.Slice.Eq.{slice_eq-Decides}
use Rattle.rows.specs.Row.{rows}
use Rattle.tickets.proofs.Compared.{same_bodies}
use Rattle.tickets.proofs.bodies.TicketBody.same.Goals as goal

pub returns : goal.returns
returns c =
    c.eq.ensures ∙
    same_bodies c.args.self.now.number c.args.other.now.number (rows c.args.self.now.lines) (rows c.args.other.now.lines) _ _ (Decides-eqb _ _) (slice_eq-Decides Decides-eqb _ _ _ refl)
