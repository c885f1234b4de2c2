-- Worked cases: what is shown for some rows of given things, at a small meaning of lines. Assumes nothing.
use Rattle.std.specs.Prelude.{◌≡◌, suc, List, [], ◌∷◌, map, replicate, Some, None, Option, ◌==◌}
use Rattle.narrow.specs.Term.{Bytes}
use Rattle.narrow.specs.Ticket.{Ticket, Yes, bare, Thing, ATicket, AYes, ATied, AKey, Shown}
use Rattle.narrow.specs.Policy.{Says, Limit, Else, Unreadable, today, most_lines}
use Rattle.narrow.specs.Can.{shows}

-- one byte is a limit, that holds if it is 0; two bytes are an else; all other lines can't be read
abbrev pub small_says : Bytes → Says
small_says [] = Unreadable
small_says (n ∷ []) = Limit (n == 0)
small_says (n ∷ k ∷ []) = Else k
small_says (n ∷ k ∷ l ∷ ls) = Unreadable

-- a limit that holds
abbrev pub holding : Bytes
holding = 0 ∷ []

-- a limit that doesn't
abbrev pub failing : Bytes
failing = 1 ∷ []

-- a line that can't be read
abbrev pub unreadable : Bytes
unreadable = []

-- a line that asks for a yes of key 5
abbrev pub else_five : Bytes
else_five = 6 ∷ 5 ∷ []

-- a line that asks for a yes of key 4
abbrev pub else_four : Bytes
else_four = 6 ∷ 4 ∷ []

-- a ticket by its lines
abbrev pub ticket_of : List Bytes → Ticket
ticket_of ls = record { number = 0 ∷ 0 ∷ 0 ∷ 7 ∷ []; lines = ls }

-- a yes of key 5 by its lines
abbrev pub five_of : List Bytes → Yes
five_of ls = record { key = 5; lines = ls }

-- what is shown, by the ticket's lines and the yeses
abbrev pub showing : List Bytes → List Yes → Option Shown
showing ls ys = Some (record { ticket = ticket_of ls; yeses = ys })

-- what was given, and what is shown for it
pub record Case : Type 0 where
  pub given : List Thing
  pub shown : Option Shown

-- a row of the table
abbrev pub case : List Thing → Option Shown → Case
case g s = record { given = g; shown = s }

-- the table
abbrev pub cases : List Case
cases =
    -- a limit that holds, one that doesn't, a line that can't be read; two tickets, each with a limit that doesn't hold
    case (ATicket (ticket_of (holding ∷ [])) ∷ []) (showing (holding ∷ []) [])
    ∷ case (ATicket (ticket_of (holding ∷ failing ∷ [])) ∷ []) None
    ∷ case (ATicket (ticket_of (holding ∷ unreadable ∷ [])) ∷ []) None
    ∷ case (ATicket (ticket_of (failing ∷ [])) ∷ ATicket (ticket_of (holding ∷ failing ∷ [])) ∷ []) None
    -- an else with nothing; with a yes whose limits hold, or don't, or are an else; with a yes of another key; with the key
    ∷ case (ATicket (ticket_of (else_five ∷ [])) ∷ []) None
    ∷ case (ATicket (ticket_of (else_five ∷ [])) ∷ AYes (five_of (holding ∷ [])) ∷ []) (showing (else_five ∷ []) (five_of (holding ∷ []) ∷ []))
    ∷ case (ATicket (ticket_of (else_five ∷ [])) ∷ AYes (five_of (holding ∷ failing ∷ [])) ∷ []) None
    ∷ case (ATicket (ticket_of (else_five ∷ [])) ∷ AYes (five_of (else_five ∷ [])) ∷ []) None
    ∷ case (ATicket (ticket_of (else_five ∷ [])) ∷ AYes (bare 4) ∷ AKey 4 ∷ []) None
    ∷ case (ATicket (ticket_of (else_five ∷ [])) ∷ AKey 5 ∷ []) (showing (else_five ∷ []) (bare 5 ∷ []))
    -- a yes tied to the ticket with a line added: that is added, if it holds; not where a line would have to go
    ∷ case (ATicket (ticket_of (else_five ∷ [])) ∷ ATied (ticket_of (else_five ∷ holding ∷ [])) (bare 5) ∷ []) (showing (else_five ∷ holding ∷ []) (bare 5 ∷ []))
    ∷ case (ATicket (ticket_of (else_five ∷ [])) ∷ ATied (ticket_of (else_five ∷ failing ∷ [])) (bare 5) ∷ []) None
    ∷ case (ATicket (ticket_of (else_five ∷ holding ∷ [])) ∷ ATied (ticket_of (else_five ∷ [])) (bare 5) ∷ []) None
    ∷ case (ATied (ticket_of (else_five ∷ [])) (bare 5) ∷ []) None
    -- a key before a free yes before a tied one, the first among equals, one yes for each else
    ∷ case (ATied (ticket_of (else_five ∷ [])) (five_of (holding ∷ [])) ∷ AYes (five_of (holding ∷ holding ∷ [])) ∷ ATicket (ticket_of (else_five ∷ [])) ∷ AKey 5 ∷ [])
    (showing (else_five ∷ []) (bare 5 ∷ []))
    ∷ case (ATied (ticket_of (else_five ∷ [])) (five_of (holding ∷ [])) ∷ AYes (five_of (failing ∷ [])) ∷ AYes (five_of (holding ∷ holding ∷ [])) ∷ AYes (bare 5) ∷ ATicket (ticket_of (else_five ∷ else_five ∷ [])) ∷ [])
    (showing (else_five ∷ else_five ∷ []) (five_of (holding ∷ holding ∷ []) ∷ five_of (holding ∷ holding ∷ []) ∷ []))
    ∷ case (ATied (ticket_of (else_five ∷ [])) (five_of (holding ∷ [])) ∷ ATicket (ticket_of (else_five ∷ [])) ∷ []) (showing (else_five ∷ []) (five_of (holding ∷ []) ∷ []))
    -- the yeses in the order of the lines; the first of two given tickets, of two that are made, and of two yeses tied to one ticket
    ∷ case (AKey 4 ∷ AKey 5 ∷ ATicket (ticket_of (else_five ∷ else_four ∷ [])) ∷ []) (showing (else_five ∷ else_four ∷ []) (bare 5 ∷ bare 4 ∷ []))
    ∷ case (ATicket (ticket_of (holding ∷ [])) ∷ ATicket (ticket_of (holding ∷ holding ∷ [])) ∷ []) (showing (holding ∷ []) [])
    ∷ case (ATied (ticket_of (else_five ∷ holding ∷ [])) (bare 5) ∷ ATicket (ticket_of (else_five ∷ [])) ∷ ATied (ticket_of (else_five ∷ holding ∷ holding ∷ [])) (bare 5) ∷ [])
    (showing (else_five ∷ holding ∷ []) (bare 5 ∷ []))
    ∷ case (ATicket (ticket_of (else_five ∷ [])) ∷ ATied (ticket_of (else_five ∷ [])) (five_of (failing ∷ [])) ∷ ATied (ticket_of (else_five ∷ [])) (five_of (holding ∷ [])) ∷ ATied (ticket_of (else_five ∷ [])) (bare 5) ∷ [])
    (showing (else_five ∷ []) (five_of (holding ∷ []) ∷ []))
    -- a given ticket before one that is made; no more lines than a ticket may have
    ∷ case (ATied (ticket_of (holding ∷ holding ∷ [])) (bare 5) ∷ ATicket (ticket_of (failing ∷ [])) ∷ ATicket (ticket_of (holding ∷ [])) ∷ []) (showing (holding ∷ []) [])
    ∷ case (ATicket (ticket_of (replicate most_lines holding)) ∷ []) (showing (replicate most_lines holding) [])
    ∷ case (ATicket (ticket_of (replicate (suc most_lines) holding)) ∷ []) None
    ∷ []

-- What is shown in each case is just what the table says.
abbrev pub WorkedCases : Type 0
WorkedCases = map (λ c. shows (today small_says) c.given) cases ≡ map (λ c. c.shown) cases
