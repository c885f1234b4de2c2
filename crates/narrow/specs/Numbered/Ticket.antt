-- Tickets and yeses, what the house lets through, and what can be done with what was given.
-- Rows are written out here, as in `limit_lines` and `ties_of`, since the statement of `Main` is made of them and stands whole (docs/DECISIONS.md, "Two models").
-- Assumes nothing.
use Rattle.std.specs.Prelude.{ℕ, Bool, true, false, cond, ◌&&◌, ◌||◌, List, [], ◌∷◌, ◌++◌, ◌==◌}
use mathlib.Core.List.{Memᴰ}
use Rattle.narrow.specs.Numbered.Term.{Line, Limit, Else, Term, Root, Yes, Tie, Gets, sums}

-- whether a limit holds for a wish, both by their numbers
abbrev pub Holds : Type 0
Holds = ℕ → ℕ → Bool

-- a ticket: the number of its key, and its lines, the latest first; a yes: the number of its key, and its limits, the latest first
pub record Ticket : Type 0 where
  pub number : ℕ
  pub lines : List Line

-- a yes: the number of its key, and its limits, the latest first
pub record YesWord : Type 0 where
  pub key : ℕ
  pub limits : List ℕ

-- a ticket's MAC
abbrev pub ticket_sum : Ticket → Term
ticket_sum t = sums (Root t.number) t.lines

-- limits as lines
unfoldable pub limit_lines : List ℕ → List Line
limit_lines [] = []
limit_lines (n ∷ ns) = Limit n ∷ limit_lines ns

-- a yes's MAC
abbrev pub yes_sum : YesWord → Term
yes_sum y = sums (Yes y.key) (limit_lines y.limits)

-- all limits hold for the wish
unfoldable pub all_hold : Holds → ℕ → List ℕ → Bool
all_hold h q [] = true
all_hold h q (n ∷ ns) = h n q && all_hold h q ns

-- what is shown for a wish: a ticket and yeses
pub record Shown : Type 0 where
  pub ticket : Ticket
  pub yeses : List YesWord

-- there is a yes under key k all of whose limits hold
unfoldable pub has_yes : Holds → ℕ → ℕ → List YesWord → Bool
has_yes h q k [] = false
has_yes h q k (y ∷ ys) = (y.key == k && all_hold h q y.limits) || has_yes h q k ys

-- all lines of a ticket hold, with these yeses shown
unfoldable pub lines_hold : Holds → ℕ → List YesWord → List Line → Bool
lines_hold h q ys [] = true
lines_hold h q ys (Limit n ∷ ls) = h n q && lines_hold h q ys ls
lines_hold h q ys (Else k ∷ ls) = has_yes h q k ys && lines_hold h q ys ls

-- the house lets a wish through if each line of the ticket holds; the sums must be right too, so whoever shows them must have them
abbrev pub lets : Holds → ℕ → Shown → Bool
lets h q s = lines_hold h q s.yeses s.ticket.lines

-- the ties of yeses to a ticket
unfoldable pub ties_of : Ticket → List YesWord → List Term
ties_of t [] = []
ties_of t (y ∷ ys) = Tie (ticket_sum t) (yes_sum y) ∷ ties_of t ys

-- whoever has the terms of the first row can have all of the second
abbrev pub HasAll : List Term → List Term → Type 0
HasAll have ts = (t : Term) → Memᴰ t ts → Gets have t

-- all that is shown can be had
abbrev pub CanShow : List Term → Shown → Type 0
CanShow have s = Gets have (ticket_sum s.ticket) × HasAll have (ties_of s.ticket s.yeses)

-- what somebody was given: tickets, yeses, yeses tied to tickets, and keys of yeses
pub record Given : Type 0 where
  pub tickets : List Ticket
  pub yeses : List YesWord
  pub tied : List Shown
  pub keys : List ℕ

-- the MACs of tickets
unfoldable pub ticket_terms : List Ticket → List Term
ticket_terms [] = []
ticket_terms (t ∷ ts) = ticket_sum t ∷ ticket_terms ts

-- the MACs of yeses
unfoldable pub yes_terms : List YesWord → List Term
yes_terms [] = []
yes_terms (y ∷ ys) = yes_sum y ∷ yes_terms ys

-- the ties that were given
unfoldable pub tied_terms : List Shown → List Term
tied_terms [] = []
tied_terms (s ∷ ss) = ties_of s.ticket s.yeses ++ tied_terms ss

-- the keys that were given
unfoldable pub key_terms : List ℕ → List Term
key_terms [] = []
key_terms (k ∷ ks) = Yes k ∷ key_terms ks

-- all terms that were given
abbrev pub terms_of : Given → List Term
terms_of g = ticket_terms g.tickets ++ (yes_terms g.yeses ++ (tied_terms g.tied ++ key_terms g.keys))

-- whether a wish can be let through, told without terms: by a given ticket, or by one that extends it and has a yes tied to it,
-- each of whose limits holds, and for each other line of which there is a key, or a yes that holds, given as such or tied to this very ticket
unfoldable pub is_in : ℕ → List ℕ → Bool
is_in n [] = false
is_in n (x ∷ xs) = x == n || is_in n xs

-- the two are one line
abbrev pub same_line : Line → Line → Bool
same_line (Limit a) (Limit e) = a == e
same_line (Limit a) (Else e) = false
same_line (Else a) (Limit e) = false
same_line (Else a) (Else e) = a == e

-- the two are one row of lines
unfoldable pub same_lines : List Line → List Line → Bool
same_lines [] [] = true
same_lines [] (y ∷ ys) = false
same_lines (x ∷ xs) [] = false
same_lines (x ∷ xs) (y ∷ ys) = same_line x y && same_lines xs ys

-- the two are one ticket
abbrev pub same_ticket : Ticket → Ticket → Bool
same_ticket a e = a.number == e.number && same_lines a.lines e.lines

-- there is a yes of key k tied to just this ticket that holds
unfoldable pub tied_yes : Holds → ℕ → ℕ → Ticket → List Shown → Bool
tied_yes h q k t [] = false
tied_yes h q k t (s ∷ ss) = (same_ticket s.ticket t && has_yes h q k s.yeses) || tied_yes h q k t ss

-- each line is met by what was given
unfoldable pub lines_can : Holds → ℕ → Given → Ticket → List Line → Bool
lines_can h q g t [] = true
lines_can h q g t (Limit n ∷ ls) = h n q && lines_can h q g t ls
lines_can h q g t (Else k ∷ ls) = (is_in k g.keys || (has_yes h q k g.yeses || tied_yes h q k t g.tied)) && lines_can h q g t ls

-- one can by one of the tickets
unfoldable pub any_can : Holds → ℕ → Given → List Ticket → Bool
any_can h q g [] = false
any_can h q g (t ∷ ts) = lines_can h q g t t.lines || any_can h q g ts

-- the first row is the second, perhaps with lines added
unfoldable pub ends_with : List Line → List Line → Bool
ends_with [] ys = same_lines [] ys
ends_with (x ∷ xs) ys = same_lines (x ∷ xs) ys || ends_with xs ys

-- the first ticket is the second, or the second with lines added
abbrev pub made_of : Ticket → Ticket → Bool
made_of a t = a.number == t.number && ends_with a.lines t.lines

-- the ticket can be made of one of these
unfoldable pub any_made_of : Ticket → List Ticket → Bool
any_made_of a [] = false
any_made_of a (t ∷ ts) = made_of a t || any_made_of a ts

-- the tickets with a yes tied to them that can be made of given ones
unfoldable pub tied_tickets : List Ticket → List Shown → List Ticket
tied_tickets ts [] = []
tied_tickets ts (s ∷ ss) = cond (any_made_of s.ticket ts) (s.ticket ∷ tied_tickets ts ss) (tied_tickets ts ss)

-- whether one can, by a given ticket or by one that a yes is tied to
abbrev pub can : Holds → ℕ → Given → Bool
can h q g = any_can h q g (g.tickets ++ tied_tickets g.tickets g.tied)

-- what to show: the first ticket by which it can be done, and for each line that asks for a yes one without limits if there is the key, else the first given one that holds, else the first tied to just this ticket
-- a type of its own and not `Option`, as the statement of `Main` has it, like the rows above
pub data Maybe : Type 0 where
  None : Maybe
  Some : Shown → Maybe

-- the first yes of key k that holds, if there is one
unfoldable pub first_yes : Holds → ℕ → ℕ → List YesWord → List YesWord
first_yes h q k [] = []
first_yes h q k (y ∷ ys) = cond (y.key == k && all_hold h q y.limits) (y ∷ []) (first_yes h q k ys)

-- the first yes of key k tied to just this ticket that holds, if there is one
unfoldable pub first_tied : Holds → ℕ → ℕ → Ticket → List Shown → List YesWord
first_tied h q k t [] = []
first_tied h q k t (s ∷ ss) = cond (same_ticket s.ticket t && has_yes h q k s.yeses) (first_yes h q k s.yeses) (first_tied h q k t ss)

-- the first row, unless it is empty
abbrev pub or_else : List YesWord → List YesWord → List YesWord
or_else [] ys = ys
or_else (x ∷ xs) ys = x ∷ xs

-- the yes to show for else k
abbrev pub yes_for : Holds → ℕ → Given → Ticket → ℕ → List YesWord
yes_for h q g t k = cond (is_in k g.keys) (record { key = k; limits = [] } ∷ []) (or_else (first_yes h q k g.yeses) (first_tied h q k t g.tied))

-- the yeses to show, one for each else line
unfoldable pub yeses_for : Holds → ℕ → Given → Ticket → List Line → List YesWord
yeses_for h q g t [] = []
yeses_for h q g t (Limit n ∷ ls) = yeses_for h q g t ls
yeses_for h q g t (Else k ∷ ls) = yes_for h q g t k ++ yeses_for h q g t ls

-- what to show by the first ticket by which one can
unfoldable pub first_shown : Holds → ℕ → Given → List Ticket → Maybe
first_shown h q g [] = None
first_shown h q g (t ∷ ts) = cond (lines_can h q g t t.lines) (Some (record { ticket = t; yeses = yeses_for h q g t t.lines })) (first_shown h q g ts)

-- what to show, if one can
abbrev pub shows : Holds → ℕ → Given → Maybe
shows h q g = first_shown h q g (g.tickets ++ tied_tickets g.tickets g.tied)
