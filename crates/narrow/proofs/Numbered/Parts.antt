-- Whoever has a ticket, a yes or a tie was given it, or what it is made of.
-- Assumes nothing.
use Rattle.std.proofs.Common.{◌≡◌, ℕ, ◌⊎◌, List, [], ◌∷◌, ◌++◌, sym, refl, ap, ◌∙◌, inl, inr, append-nil}
use Rattle.narrow.specs.Numbered.Term.{Line, Limit, Else, Root, Yes, Tie, Gets}
use Rattle.narrow.specs.Numbered.Ticket.{Ticket, YesWord, Shown, Given, ticket_sum, yes_sum, limit_lines, terms_of}
use Rattle.narrow.specs.Numbered.Promise.{TicketGiven, YesGiven}
use Rattle.narrow.proofs.RowKinds.{◌∈◌, in_same}
use Rattle.narrow.proofs.Numbered.Terms.{lines_of, root_sums, lines_sums, Had, of_ticket, of_yes, of_key, of_tied, of_parts, had}

-- the limits among lines
abbrev limits_of : List Line → List ℕ
limits_of [] = []
limits_of (Limit n ∷ ls) = n ∷ limits_of ls
limits_of (Else k ∷ ls) = limits_of ls

-- limits made into lines are still those limits, behind other lines too
limits_behind : (more : List Line) (ns : List ℕ) → limits_of (more ++ limit_lines ns) ≡ limits_of more ++ ns
unfolding limit_lines
limits_behind [] [] = refl
limits_behind [] (n ∷ ns) = ap (λ r. n ∷ r) (limits_behind [] ns)
limits_behind (Limit n ∷ more) ns = ap (λ r. n ∷ r) (limits_behind more ns)
limits_behind (Else k ∷ more) ns = limits_behind more ns

-- limits that end a row of limits, both made into lines, end it as they are
limits_end : (more : List Line) (ms ns : List ℕ) → limit_lines ms ≡ more ++ limit_lines ns → ms ≡ limits_of more ++ ns
limits_end more ms ns e = sym (limits_behind [] ms) ∙ (ap limits_of e ∙ limits_behind more ns)

-- the lines of a ticket's sum are the ticket's
ticket_lines : (t : Ticket) → lines_of (ticket_sum t) ≡ t.lines
ticket_lines t = lines_sums (Root t.number) t.lines ∙ append-nil t.lines

-- the lines of a yes's sum are its limits
yes_lines : (y : YesWord) → lines_of (yes_sum y) ≡ limit_lines y.limits
yes_lines y = lines_sums (Yes y.key) (limit_lines y.limits) ∙ append-nil (limit_lines y.limits)

-- tickets with one sum are one
one_ticket : (t s : Ticket) → ticket_sum t ≡ ticket_sum s → t ≡ s
one_ticket t s e =
    let n : t.number ≡ s.number = cc (e, root_sums (Root t.number) t.lines, root_sums (Root s.number) s.lines) in
    let l : t.lines ≡ s.lines = sym (ticket_lines t) ∙ (ap lines_of e ∙ ticket_lines s) in
    λ i. record { number = n i; lines = l i }

-- yeses with one sum are one
one_yes : (y z : YesWord) → yes_sum y ≡ yes_sum z → y ≡ z
one_yes y z e =
    let k : y.key ≡ z.key = cc (e, root_sums (Yes y.key) (limit_lines y.limits), root_sums (Yes z.key) (limit_lines z.limits)) in
    let l : y.limits ≡ z.limits = limits_end [] y.limits z.limits (sym (yes_lines y) ∙ (ap lines_of e ∙ yes_lines z)) in
    λ i. record { key = k i; limits = l i }

-- whoever has a ticket was given one that it extends
pub ticket_given : TicketGiven
ticket_given g t d = go (rw (root_sums, lines_sums, append-nil) at (had g d))
  where
    go : Had g t.lines (Root t.number) → (s : Ticket) × (s ∈ g.tickets) × (s.number ≡ t.number) × ((more : List Line) × (t.lines ≡ more ++ s.lines))
    go (of_ticket s m n more e) = (s, m, n, (more, e))

-- whoever has a yes has its key, or was given one that it narrows
pub yes_given : YesGiven
yes_given g y d = go (rw (root_sums, lines_sums, append-nil) at (had g d))
  where
    go : Had g (limit_lines y.limits) (Yes y.key) → (y.key ∈ g.keys) ⊎ ((z : YesWord) × (z ∈ g.yeses) × (z.key ≡ y.key) × ((more : List ℕ) × (y.limits ≡ more ++ z.limits)))
    go (of_yes z m k more e) = inr (z, m, k, (limits_of more, limits_end more y.limits z.limits e))
    go (of_key m) = inl m

-- whoever has the tie of a yes to a ticket was given it, or has the yes
pub tie_given : (g : Given) (t : Ticket) (y : YesWord) → Gets (terms_of g) (Tie (ticket_sum t) (yes_sum y)) → ((w : Shown) × (w ∈ g.tied) × (w.ticket ≡ t) × (y ∈ w.yeses)) ⊎ Gets (terms_of g) (yes_sum y)
tie_given g t y d = go (had g d)
  where
    go : Had g [] (Tie (ticket_sum t) (yes_sum y)) → ((w : Shown) × (w ∈ g.tied) × (w.ticket ≡ t) × (y ∈ w.yeses)) ⊎ Gets (terms_of g) (yes_sum y)
    go (of_tied w z m n p r) = inl (w, m, one_ticket w.ticket t (sym p), in_same (one_yes y z r) n)
    go (of_parts a e) = inr e
