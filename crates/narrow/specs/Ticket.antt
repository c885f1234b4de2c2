-- Tickets, yeses, what is given and what is shown, each with its term. Assumes nothing.
use Rattle.std.specs.Prelude.{◌≡◌, ℕ, List, [], ◌∷◌, ◌++◌, map}
use mathlib.Core.List.{Memᴰ}
use Rattle.narrow.specs.Term.{Bytes, Term, Secret, Tie, House, KeyOf, Gets, macs}

-- a ticket (a macaroon): its number as bytes, and its lines (caveats), first to last; a line is its bytes
pub record Ticket : Type 0 where
  pub number : Bytes
  pub lines : List Bytes

-- a yes (a discharge): the number of the key that it is made under, and its own lines, first to last
pub record Yes : Type 0 where
  pub key : ℕ
  pub lines : List Bytes

-- a ticket with one line more, at the end
abbrev pub with_line : Ticket → Bytes → Ticket
with_line t l = record { number = t.number; lines = t.lines ++ l ∷ [] }

-- a yes with one limit more, at the end
abbrev pub with_limit : Yes → Bytes → Yes
with_limit y l = record { key = y.key; lines = y.lines ++ l ∷ [] }

-- the yes of key k without limits
abbrev pub bare : ℕ → Yes
bare k = record { key = k; lines = [] }

-- the first is the second, or the second with lines added
abbrev pub Extends : Ticket → Ticket → Type 0
Extends t s = (t.number ≡ s.number) × ((more : List Bytes) × (t.lines ≡ s.lines ++ more))

-- the first is the second, or the second with limits added
abbrev pub Narrows : Yes → Yes → Type 0
Narrows y z = (y.key ≡ z.key) × ((more : List Bytes) × (y.lines ≡ z.lines ++ more))

-- a ticket's MAC: first of its number under the house's key, then of each line under the MAC before
abbrev pub ticket_mac : Ticket → Term
ticket_mac t = macs (Secret House) (t.number ∷ t.lines)

-- the first message of a yes: one byte 1
abbrev pub yes_message : Bytes
yes_message = 1 ∷ []

-- a yes's MAC: first of one byte 1 under its key, then as a ticket's
abbrev pub yes_mac : Yes → Term
yes_mac y = macs (Secret (KeyOf y.key)) (yes_message ∷ y.lines)

-- a yes tied (bound) to a ticket, so that it serves with just this one
abbrev pub tie_of : Ticket → Yes → Term
tie_of t y = Tie (ticket_mac t) (yes_mac y)

-- what somebody is given: a ticket; a yes, free; a yes tied to a ticket, with that ticket's number and lines; the key k of yeses
pub data Thing : Type 0 where
  ATicket : Ticket → Thing
  AYes : Yes → Thing
  ATied : Ticket → Yes → Thing
  AKey : ℕ → Thing

-- the term that is given with a thing
abbrev pub term_of : Thing → Term
term_of (ATicket t) = ticket_mac t
term_of (AYes y) = yes_mac y
term_of (ATied t y) = tie_of t y
term_of (AKey k) = Secret (KeyOf k)

-- all terms that are given
abbrev pub terms_of : List Thing → List Term
terms_of g = map term_of g

-- the narrow attacker, who adds lines, makes yeses under given keys, and ties; nothing else
pub data Makes (have : List Term) : Term → Type 0 where
  given : {t : Term} → Memᴰ t have → Makes have t
  line : (t : Ticket) (l : Bytes) → Makes have (ticket_mac t) → Makes have (ticket_mac (with_line t l))
  limit : (y : Yes) (l : Bytes) → Makes have (yes_mac y) → Makes have (yes_mac (with_limit y l))
  yes_under : (k : ℕ) → Memᴰ (Secret (KeyOf k)) have → Makes have (yes_mac (bare k))
  tied : (t : Ticket) (y : Yes) → Makes have (ticket_mac t) → Makes have (yes_mac y) → Makes have (tie_of t y)

-- what is shown for a wish: a ticket, and yeses tied to it
pub record Shown : Type 0 where
  pub ticket : Ticket
  pub yeses : List Yes

-- the terms that the house works out for what is shown: the ticket's MAC, and the tie of each yes
abbrev pub shown_terms : Shown → List Term
shown_terms s = ticket_mac s.ticket ∷ map (tie_of s.ticket) s.yeses

-- all that is shown can be derived
abbrev pub CanShow : List Term → Shown → Type 0
CanShow have s = (t : Term) → Memᴰ t (shown_terms s) → Gets have t

-- all that is shown can be made by adding lines, making yeses under given keys, and tying
abbrev pub CanMake : List Term → Shown → Type 0
CanMake have s = (t : Term) → Memᴰ t (shown_terms s) → Makes have t
