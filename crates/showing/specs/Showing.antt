-- What is shown for a wish, in bytes. Assumes nothing.
use Rattle.std.specs.Prelude.{ℕ, cond, List, Ok, Err, Result}
use Rattle.narrow.specs.Term.{Bytes}
use Rattle.narrow.specs.Policy.{most_yeses}
use Rattle.parts.specs.Limits.{WishView, in_range}
use Rattle.lines.specs.declared.Fault.{Fault}
use Rattle.lines.specs.declared.Fault.TheVariants.{Range}
use Rattle.rows.specs.Rowing.{next}
use Rattle.tickets.specs.Making.{Ticket, Tied}
use Rattle.codec.specs.Format.{Format, wish, behind, both, named, counted, whole}
use Rattle.codec.specs.Things.{ticket, tied}

-- a wish, a ticket with its MAC, and yeses tied to it
pub record ShownView : Type 0 where
  pub asked : WishView
  pub ticket : Ticket
  pub yeses : List Tied

abbrev pub shown_kind : ℕ
shown_kind = 22

-- the wish may be out of range
abbrev pub shown : Format ShownView
shown =
    behind shown_kind
    (named (λ p. record { asked = p.0; ticket = p.1.0; yeses = p.1.1 }) (λ s. (s.asked, (s.ticket, s.yeses)))
    (both wish (both ticket (counted most_yeses tied))))

-- the wish held to its range
abbrev pub ranged : ShownView → Result ShownView Fault
ranged s = cond (in_range s.asked) (Ok s) (Err Range)

-- what the bytes show as a whole: the wish's range is asked after all of them were read
unfoldable pub shown_of : Bytes → Result ShownView Fault
shown_of bs = next (whole shown bs) ranged
