-- What somebody can, by what they were given, without terms: whether a wish can be let through, and what to show for it.
-- Assumes nothing.
use Rattle.std.specs.Prelude.{ℕ, Bool, ◌&&◌, List, ◌++◌, is_some, Some, None, filter, Option, nat_eq}
use Rattle.std.specs.Option.{option_or}
use Rattle.std.specs.Bool.{then_some}
use Rattle.narrow.specs.Rows.{any, first, gather, same_row, begins_with}
use Rattle.narrow.specs.Term.{Bytes}
use Rattle.narrow.specs.Ticket.{Ticket, Yes, Shown, Thing, ATicket, AYes, ATied, AKey, bare}
use Rattle.narrow.specs.Policy.{Says, Limit, Else, Unreadable, Policy, all_met, serves}

-- the two are the same bytes
abbrev pub same_bytes : Bytes → Bytes → Bool
same_bytes a b = same_row nat_eq a b

-- the two are one ticket
abbrev pub same_ticket : Ticket → Ticket → Bool
same_ticket t s = same_bytes t.number s.number && same_row same_bytes t.lines s.lines

-- the first is the second, or the second with lines added
abbrev pub extends : Ticket → Ticket → Bool
extends t s = same_bytes t.number s.number && begins_with same_bytes t.lines s.lines

-- the ticket that a thing is
abbrev pub the_ticket : Thing → Option Ticket
the_ticket (ATicket t) = Some t
the_ticket (AYes y) = None
the_ticket (ATied t y) = None
the_ticket (AKey k) = None

-- the ticket that a yes is tied to
abbrev pub tied_ticket : Thing → Option Ticket
tied_ticket (ATicket t) = None
tied_ticket (AYes y) = None
tied_ticket (ATied t y) = Some t
tied_ticket (AKey k) = None

-- the ticket is a given one, or a given one with lines added
abbrev pub can_make_ticket : List Thing → Ticket → Bool
can_make_ticket g t = any (extends t) (gather the_ticket g)

-- the tickets that are tried, in order: each given one as it is; then each to which a yes is tied, if it can be made
unfoldable pub tried : List Thing → List Ticket
tried g = gather the_ticket g ++ filter (can_make_ticket g) (gather tied_ticket g)

-- the ways to a yes for showing with a ticket. By a key: a yes without limits, made for it
abbrev pub by_key : Thing → Option Yes
by_key (ATicket t) = None
by_key (AYes y) = None
by_key (ATied t y) = None
by_key (AKey k) = Some (bare k)

-- by a yes that is free
abbrev pub by_free : Thing → Option Yes
by_free (ATicket t) = None
by_free (AYes y) = Some y
by_free (ATied t y) = None
by_free (AKey k) = None

-- by a yes that is tied to just this ticket
abbrev pub by_tied : Ticket → Thing → Option Yes
by_tied t (ATicket s) = None
by_tied t (AYes y) = None
by_tied t (ATied s y) = then_some (same_ticket s t) y
by_tied t (AKey k) = None

-- the yes, if it serves for else k
abbrev pub if_serves : Policy → ℕ → Option Yes → Option Yes
if_serves p k None = None
if_serves p k (Some y) = then_some (serves p k y) y

-- the first given thing by which there is, in one way, a yes that serves for else k
abbrev pub first_by : (Thing → Option Yes) → Policy → ℕ → List Thing → Option Yes
first_by way p k g = first (λ x. if_serves p k (way x)) g

-- the yes to show with the ticket for else k: by a key first, then a free one, then one tied to just this ticket
unfoldable pub yes_for : Policy → List Thing → Ticket → ℕ → Option Yes
yes_for p g t k = option_or (first_by by_key p k g) (option_or (first_by by_free p k g) (first_by (by_tied t) p k g))

-- the ticket is taken, and each of its lines is met by what was given
unfoldable pub can_by : Policy → List Thing → Ticket → Bool
can_by p g t = p.takes t && all_met p.says (λ k. is_some (yes_for p g t k)) t.lines

-- the yes to show for what a line says, if it asks for one
abbrev pub yes_for_line : Policy → List Thing → Ticket → Says → Option Yes
yes_for_line p g t (Limit b) = None
yes_for_line p g t (Else k) = yes_for p g t k
yes_for_line p g t Unreadable = None

-- the yeses to show with the ticket: one for each else line, from the first line on
unfoldable pub yeses_for : Policy → List Thing → Ticket → List Yes
yeses_for p g t = gather (λ l. yes_for_line p g t (p.says l)) t.lines

-- what is shown by a ticket
abbrev pub shown_by : Policy → List Thing → Ticket → Shown
shown_by p g t = record { ticket = t; yeses = yeses_for p g t }

-- what to show: by the first of the tried tickets by which one can
unfoldable pub shows : Policy → List Thing → Option Shown
shows p g = first (λ t. then_some (can_by p g t) (shown_by p g t)) (tried g)

-- whether one can: there is something to show
unfoldable pub can : Policy → List Thing → Bool
can p g = is_some (shows p g)
