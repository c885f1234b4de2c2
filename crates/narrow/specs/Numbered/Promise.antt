-- What is promised, as types: a term of such a type is a proof.
-- Assumes nothing.
use Rattle.std.specs.Prelude.{◌≡◌, ℕ, true, false, ◌⊎◌, List, ◌∷◌, ◌++◌}
use mathlib.Core.List.{Memᴰ}
use Rattle.narrow.specs.Numbered.Term.{Line, Gets}
use Rattle.narrow.specs.Numbered.Ticket.{Holds, Ticket, YesWord, ticket_sum, yes_sum, Shown, lets, CanShow, Given, terms_of, can, None, Some, shows}

-- Whoever can have a ticket was given it, perhaps without its latest lines.
abbrev pub TicketGiven : Type 0
TicketGiven =
    (g : Given) (t : Ticket) → Gets (terms_of g) (ticket_sum t) →
    (s : Ticket) × Memᴰ s g.tickets × (s.number ≡ t.number) × ((more : List Line) × (t.lines ≡ more ++ s.lines))

-- Whoever can have a yes has its key, or was given it, perhaps without its latest limits.
abbrev pub YesGiven : Type 0
YesGiven =
    (g : Given) (y : YesWord) → Gets (terms_of g) (yes_sum y) → (Memᴰ y.key g.keys) ⊎
    ((z : YesWord) × Memᴰ z g.yeses × (z.key ≡ y.key) × ((more : List ℕ) × (y.limits ≡ more ++ z.limits)))

-- A line more lets no more through.
abbrev pub Narrower : Type 0
Narrower =
    (h : Holds) (q : ℕ) (n : ℕ) (l : Line) (ls : List Line) (ys : List YesWord) →
    lets h q (record { ticket = record { number = n; lines = l ∷ ls }; yeses = ys }) ≡ true → lets h q (record { ticket = record { number = n; lines = ls }; yeses = ys }) ≡ true

-- A line more on a given ticket or yes lets somebody do no more; and whoever was given more can do no less.
abbrev pub LineLess : Type 0
LineLess =
    ((h : Holds) (q n : ℕ) (l : Line) (ls : List Line) (ts : List Ticket) (ys : List YesWord) (ss : List Shown) (ks : List ℕ) →
    can h q (record { tickets = record { number = n; lines = l ∷ ls } ∷ ts; yeses = ys; tied = ss; keys = ks }) ≡ true → can h q (record { tickets = record { number = n; lines = ls } ∷ ts; yeses = ys; tied = ss; keys = ks }) ≡ true) ×
    ((h : Holds) (q k m : ℕ) (ms : List ℕ) (ts : List Ticket) (ys : List YesWord) (ss : List Shown) (ks : List ℕ) →
    can h q (record { tickets = ts; yeses = record { key = k; limits = m ∷ ms } ∷ ys; tied = ss; keys = ks }) ≡ true → can h q (record { tickets = ts; yeses = record { key = k; limits = ms } ∷ ys; tied = ss; keys = ks }) ≡ true)

-- Whoever was given more can do no less.
abbrev pub MoreGiven : Type 0
MoreGiven =
    (h : Holds) (q : ℕ) (g : Given) (ts : List Ticket) (ys : List YesWord) (ss : List Shown) (ks : List ℕ) → can h q g ≡ true →
    can h q (record { tickets = ts ++ g.tickets; yeses = ys ++ g.yeses; tied = ss ++ g.tied; keys = ks ++ g.keys }) ≡ true

-- The main promise: whatever somebody was given, from anybody, and however they add lines and ties, they can show something for which the house lets a wish through exactly if `can` says so;
-- and then what `shows` answers can be shown and is let through.
pub record Whole (h : Holds) (q : ℕ) (g : Given) : Type 0 where
  pub if_so : can h q g ≡ true → (s : Shown) × (shows h q g ≡ Some s) × CanShow (terms_of g) s × (lets h q s ≡ true)
  pub if_not : can h q g ≡ false → shows h q g ≡ None
  pub only_so : (s : Shown) → CanShow (terms_of g) s → lets h q s ≡ true → can h q g ≡ true

-- The whole promise: exact, a line more never helps, more given never hurts.
abbrev pub Main : Type 0
Main = ((h : Holds) (q : ℕ) (g : Given) → Whole h q g) × (LineLess × MoreGiven)
