-- What the code's tickets and yeses stand for. Assumes nothing.
use Rattle.std.specs.Prelude.{Result}
use Rattle.std.specs.Result.{result_map_both}
use Rattle.narrow.specs.Ticket as model
use Rattle.numbers.specs.Bytes.{four_bytes}
use Rattle.lines.specs.declared.Fault.{Fault}
use Rattle.rows.specs.Row.{rows}
use Rattle.tickets.specs.declared.bodies.TicketBody.{TicketBody}
use Rattle.tickets.specs.declared.bodies.YesBody.{YesBody}
use Rattle.tickets.specs.declared.WithMac.{WithMac}
use Rattle.tickets.specs.declared.TiedYes.{TiedYes}
use Rattle.tickets.specs.Making as making

-- without its MAC
abbrev pub ticket_body : TicketBody → model.Ticket
ticket_body b = record { number = four_bytes b.number; lines = rows b.lines }

abbrev pub yes_body : YesBody → model.Yes
yes_body b = record { key = b.key.number; lines = rows b.limits }

-- with its MAC, by what the body stands for
abbrev pub maced_view : {B A : Type 0} → (B → A) → WithMac B → making.Maced A
maced_view view m = record { of = view m.body; mac = m.mac.bytes }

abbrev pub ticket_view : WithMac TicketBody → making.Ticket
ticket_view = maced_view ticket_body

abbrev pub yes_view : WithMac YesBody → making.Yes
yes_view = maced_view yes_body

-- with its tie
abbrev pub tied_view : TiedYes → making.Tied
tied_view y = record { of = yes_body y.body; mac = y.tie.bytes }

-- what was made of a ticket
abbrev pub ticket_made : Result (WithMac TicketBody) Fault → Result making.Ticket Fault
ticket_made r = result_map_both ticket_view (λ f. f) r
