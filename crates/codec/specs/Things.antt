-- The formats of all that is passed from hand to hand. Assumes nothing.
use Rattle.std.specs.Prelude.{ℕ, length, nat_le, nat_lt}
use Rattle.narrow.specs.Term.{Bytes, mac_length}
use Rattle.narrow.specs.Ticket as model
use Rattle.lines.specs.declared.Fault.TheVariants.{Unreadable}
use Rattle.lines.specs.declared.Place.TheVariants.{Ticket, Yes}
use Rattle.parts.specs.Limits.{last_key}
use Rattle.tickets.specs.Making as making
use Rattle.tickets.specs.Making.{Maced}
use Rattle.codec.specs.Format.{Format, fixed, two_byte, row, behind, both, only, named}

-- the kinds
abbrev pub ticket_kind : ℕ
ticket_kind = 16

abbrev pub yes_kind : ℕ
yes_kind = 17

abbrev pub tied_kind : ℕ
tied_kind = 18

abbrev pub passed_kind : ℕ
passed_kind = 19

abbrev pub key_kind : ℕ
key_kind = 20

-- how many bytes a ticket's number has
abbrev pub number_length : ℕ
number_length = 4

-- the number of a key of yeses
abbrev pub key_number : Format ℕ
key_number = only (λ k. nat_le k last_key) Unreadable two_byte

-- a MAC, a tie or a secret
abbrev pub mac : Format Bytes
mac = fixed mac_length

-- something and its MAC
abbrev pub maced : {A : Type 0} → Format A → Format (Maced A)
maced f = named (λ p. record { of = p.0; mac = p.1 }) (λ m. (m.of, m.mac)) (both f mac)

-- a ticket's number and lines, of which there is one at least
abbrev pub ticket_body_format : Format model.Ticket
ticket_body_format =
    behind ticket_kind
    (named (λ p. record { number = p.0; lines = p.1 }) (λ t. (t.number, t.lines))
    (both (fixed number_length) (only (λ ls. nat_lt 0 (length ls)) Unreadable (row Ticket))))

-- a yes's key and limits
abbrev pub yes_content : Format model.Yes
yes_content = named (λ p. record { key = p.0; lines = p.1 }) (λ y. (y.key, y.lines)) (both key_number (row Yes))

-- the same behind the kind of what it stands in
abbrev pub yes_body_format : ℕ → Format model.Yes
yes_body_format kind = behind kind yes_content

-- a ticket
abbrev pub ticket : Format making.Ticket
ticket = maced ticket_body_format

-- a yes
abbrev pub yes : Format making.Yes
yes = maced (yes_body_format yes_kind)

-- a tied yes, as it is shown
abbrev pub tied : Format making.Tied
tied = maced (yes_body_format tied_kind)

-- a tied yes with its ticket, as it is passed on
abbrev pub passed : Format (model.Ticket × making.Tied)
passed = behind passed_kind (both ticket_body_format tied)

-- a key of yeses: its number and its secret
abbrev pub key : Format (ℕ × Bytes)
key = behind key_kind (both key_number mac)
