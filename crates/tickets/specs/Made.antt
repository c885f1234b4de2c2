-- What is right: what was made from a house's secrets by making, adding and tying. Assumes nothing.
use Rattle.std.specs.Prelude.{◌≡◌, ℕ, length, replicate, Some, Ok, Option, Result}
use Rattle.std.specs.Option.{unwrap_or}
use Rattle.narrow.specs.Term.{Bytes, mac_length, Origin, House, KeyOf}
use Rattle.narrow.specs.Ticket as model
use Rattle.narrow.specs.TermBytes.{Interpretation, bytes_of}
use Rattle.hmac.specs.Hmac.{hmac_of}
use Rattle.lines.specs.declared.Fault.{Fault}
use Rattle.tickets.specs.Making.{Maced, Ticket, Yes, Tied, added, line_added, limit_added, new_ticket, new_yes, tied}

-- a thing that somebody has, with its 32 bytes: a ticket; a yes; a yes tied to a ticket, with that ticket's number and lines; a key
pub data Thing : Type 0 where
  ATicket : Ticket → Thing
  AYes : Yes → Thing
  ATied : model.Ticket → Tied → Thing
  AKey : ℕ → Bytes → Thing

-- what it is in the model
abbrev pub plain : Thing → model.Thing
plain (ATicket t) = model.ATicket t.of
plain (AYes y) = model.AYes y.of
plain (ATied t y) = model.ATied t y.of
plain (AKey k b) = model.AKey k

-- its 32 bytes: a MAC, a tie or a secret
abbrev pub carried : Thing → Bytes
carried (ATicket t) = t.mac
carried (AYes y) = y.mac
carried (ATied t y) = y.mac
carried (AKey k b) = b

-- the secrets of a house: its own key, and those of yeses that it knows
pub record Secrets : Type 0 where
  pub house : Bytes
  pub key : ℕ → Option Bytes

-- the secret by its origin. A key that the house doesn't know is 32 zeros, so that every term has bytes
abbrev pub secret_of : Secrets → Origin → Bytes
secret_of s House = s.house
secret_of s (KeyOf k) = unwrap_or (s.key k) (replicate mac_length 0)

-- terms in bytes, by HMAC-SHA-256 and a house's secrets
abbrev pub by_hmac : Secrets → Interpretation
by_hmac s = record { hmac = hmac_of; secret = secret_of s }

-- the thing has the bytes of its own term
abbrev pub Right : Secrets → Thing → Type 0
Right s x = carried x ≡ bytes_of (by_hmac s) (model.term_of (plain x))

-- whatever is right stays so when one line more is MACed under the MAC before
abbrev pub StaysRight : {A : Type 0} → (A → Bytes → Result A Fault) → (Maced A → Thing) → Type 0
StaysRight {A} longer thing = (s : Secrets) (t u : Maced A) (l : Bytes) → added longer t l ≡ Ok u → Right s (thing t) → Right s (thing u)

-- made from a house's secrets: new tickets, keys that the house knows and yeses under them, lines and limits added, yeses tied
pub data Made (s : Secrets) : Thing → Type 0 where
  ticket : (n l : Bytes) (t : Ticket) → length n ≡ 4 → new_ticket s.house n l ≡ Ok t → Made s (ATicket t)
  line : (t u : Ticket) (l : Bytes) → Made s (ATicket t) → line_added t l ≡ Ok u → Made s (ATicket u)
  key : (k : ℕ) (b : Bytes) → s.key k ≡ Some b → Made s (AKey k b)
  yes : (k : ℕ) (b : Bytes) → Made s (AKey k b) → Made s (AYes (new_yes k b))
  limit : (y z : Yes) (l : Bytes) → Made s (AYes y) → limit_added y l ≡ Ok z → Made s (AYes z)
  tie : (t : Ticket) (y : Yes) → Made s (ATicket t) → Made s (AYes y) → Made s (ATied t.of (tied t y))
