use Rattle.std.proofs.Common.{◌≡◌, true, ◌++◌, length, drop, ◌∙◌, subst₂}
use Rattle.std.proofs.lemmas.Slice.Eq.{starts_is}
use Rattle.std.proofs.lemmas.Bool.{ne_eqb}
use Rattle.narrow.specs.Term.{Bytes}
use Rattle.rows.specs.Row.{rows}
use Rattle.tickets.proofs.Compared.{begun_wires, other_base}
use Rattle.tickets.proofs.bodies.TicketBody.extends.Goals as goal
use Rattle.std.proofs.lemmas.Bool.Decides.{Decides-eqb}

pub returns-then-self-other : goal.returns-then-self-other
returns-then-self-other c =
    begun_wires c.args.self.now.number c.args.other.now.number (rows c.args.self.now.lines) (rows c.args.other.now.lines) c.if-self-other.true c.starts_with.result
    (subst₂ (λ (a b : Bytes). (c.starts_with.result ≡ true → a ≡ b ++ drop (length b) a) × ((rest : Bytes) → a ≡ b ++ rest → c.starts_with.result ≡ true))
    c.wire.ensures c.wire-then-self-other.ensures (starts_is Decides-eqb _ _ _ c.starts_with.ensures.value))

pub returns-else-self-other : goal.returns-else-self-other
returns-else-self-other c =
    ne_eqb _ _ c.if-self-other.false ∙
    other_base c.args.self.now.number c.args.other.now.number (rows c.args.self.now.lines) (rows c.args.other.now.lines) c.if-self-other.false
