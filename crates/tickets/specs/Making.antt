-- Tickets and yeses with their MACs in bytes: making, adding and tying, by HMAC-SHA-256. Assumes nothing.
use Rattle.std.specs.Prelude.{ℕ, [], Result}
use Rattle.std.specs.Result.{result_map_both}
use Rattle.narrow.specs.Term.{Bytes}
use Rattle.narrow.specs.Ticket as model
use Rattle.narrow.specs.TermBytes.{tie_message}
use Rattle.hmac.specs.Hmac.{hmac_of}
use Rattle.lines.specs.declared.Fault.{Fault}
use Rattle.lines.specs.declared.Place.TheVariants as place
use Rattle.rows.specs.Standing.{pushed}

-- a ticket or a yes of the model, and 32 bytes: its MAC, or for a tied yes its tie
pub record Maced (A : Type 0) : Type 0 where
  pub of : A
  pub mac : Bytes

abbrev pub Ticket : Type 0
Ticket = Maced model.Ticket

abbrev pub Yes : Type 0
Yes = Maced model.Yes

-- a yes, with its tie in the MAC's place
abbrev pub Tied : Type 0
Tied = Maced model.Yes

-- a ticket of the model with one line more, or why it can't be, as for rows of lines
abbrev pub ticket_longer : model.Ticket → Bytes → Result model.Ticket Fault
ticket_longer t l = result_map_both (λ ls. record { number = t.number; lines = ls }) (λ f. f) (pushed place.Ticket t.lines l)

-- the same for a yes and a limit
abbrev pub yes_longer : model.Yes → Bytes → Result model.Yes Fault
yes_longer y l = result_map_both (λ ls. record { key = y.key; lines = ls }) (λ f. f) (pushed place.Yes y.lines l)

-- made longer by one line, which is MACed under the MAC before
unfoldable pub added : {A : Type 0} → (A → Bytes → Result A Fault) → Maced A → Bytes → Result (Maced A) Fault
added longer t l = result_map_both (λ a. record { of = a; mac = hmac_of t.mac l }) (λ f. f) (longer t.of l)

-- the ticket with one line more, or why it can't be
abbrev pub line_added : Ticket → Bytes → Result Ticket Fault
line_added = added ticket_longer

-- the yes with one limit more, or why it can't be
abbrev pub limit_added : Yes → Bytes → Result Yes Fault
limit_added = added yes_longer

-- the number of a ticket, MACed under the house's key: no ticket yet, as it has no line
abbrev pub number_maced : Bytes → Bytes → Ticket
number_maced house n = record { of = record { number = n; lines = [] }; mac = hmac_of house n }

-- a new ticket of the house, with its first line
unfoldable pub new_ticket : Bytes → Bytes → Bytes → Result Ticket Fault
new_ticket house n l = line_added (number_maced house n) l

-- the yes of key k without limits, made under its secret
unfoldable pub new_yes : ℕ → Bytes → Yes
new_yes k secret = record { of = model.bare k; mac = hmac_of secret model.yes_message }

-- the yes tied to the ticket
unfoldable pub tied : Ticket → Yes → Tied
tied t y = record { of = y.of; mac = hmac_of t.mac (tie_message y.mac) }
