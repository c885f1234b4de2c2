-- Each function over rows of the specs as one of the kinds of Rows.
-- Assumes nothing.
use Rattle.std.proofs.Common.{◌≡◌, ℕ, Bool, true, false, cond, ◌&&◌, ◌||◌, eqb, List, [], ◌∷◌, ◌++◌, refl}
use Rattle.narrow.specs.Numbered.Term.{Line, Limit, Else, Yes, Tie}
use Rattle.narrow.specs.Numbered.Ticket.{Holds, Ticket, YesWord, Shown, Given, ticket_sum, yes_sum, ties_of, ticket_terms, yes_terms, tied_terms, key_terms, all_hold, has_yes, lines_hold, is_in, same_ticket, tied_yes, lines_can, any_can, made_of, any_made_of, tied_tickets, None, Some, first_yes, first_tied, yes_for, yeses_for, first_shown}
use Rattle.narrow.proofs.RowKinds.{IsAny, IsAll, IsJoin, IsFirst}

-- y is a yes under key k whose limits hold
abbrev pub serves : Holds → ℕ → ℕ → YesWord → Bool
serves h q k y = eqb y.key k && all_hold h q y.limits

-- w has a yes under key k whose limits hold, tied to t
abbrev pub serves_tied : Holds → ℕ → ℕ → Ticket → Shown → Bool
serves_tied h q k t w = same_ticket w.ticket t && has_yes h q k w.yeses

-- a line holds, where s tells of each key whether there is a yes under it
abbrev pub meets : Holds → ℕ → (ℕ → Bool) → Line → Bool
meets h q s (Limit n) = h n q
meets h q s (Else k) = s k

-- by what was given there is a yes under key k for t
abbrev pub may_yes : Holds → ℕ → Given → Ticket → ℕ → Bool
may_yes h q g t k = is_in k g.keys || (has_yes h q k g.yeses || tied_yes h q k t g.tied)

-- the tickets that `can` and `shows` try
abbrev pub tried : Given → List Ticket
tried g = g.tickets ++ tied_tickets g.tickets g.tied

-- the yeses that are chosen for a line of t
abbrev pub yeses_of : Holds → ℕ → Given → Ticket → Line → List YesWord
yeses_of h q g t (Limit n) = []
yeses_of h q g t (Else k) = yes_for h q g t k

-- what is chosen to be shown with t
abbrev pub shown_with : Holds → ℕ → Given → Ticket → Shown
shown_with h q g t = record { ticket = t; yeses = yeses_for h q g t t.lines }

module _ (h : Holds) (q : ℕ) where
  -- all limits hold
  pub all_hold_all : IsAll (λ n. h n q) (all_hold h q)
  unfolding all_hold
  all_hold_all = record { none = refl; more = λ x xs. refl }

  -- any yes serves
  pub has_yes_any : (k : ℕ) → IsAny (serves h q k) (has_yes h q k)
  unfolding has_yes
  has_yes_any k = record { none = refl; more = λ x xs. refl }

  -- any tied yes serves
  pub tied_yes_any : (k : ℕ) (t : Ticket) → IsAny (serves_tied h q k t) (tied_yes h q k t)
  unfolding tied_yes
  tied_yes_any k t = record { none = refl; more = λ x xs. refl }

  -- all lines hold by the shown yeses
  pub lines_hold_all : (ys : List YesWord) → IsAll (meets h q (λ k. has_yes h q k ys)) (lines_hold h q ys)
  unfolding lines_hold
  lines_hold_all ys = record { none = refl; more = elim [ Limit n ↦ λ xs. refl | Else k ↦ λ xs. refl ] }

  -- all lines hold by what was given
  pub lines_can_all : (g : Given) (t : Ticket) → IsAll (meets h q (may_yes h q g t)) (lines_can h q g t)
  unfolding lines_can
  lines_can_all g t = record { none = refl; more = elim [ Limit n ↦ λ xs. refl | Else k ↦ λ xs. refl ] }

  -- any ticket will do
  pub any_can_any : (g : Given) → IsAny (λ (t : Ticket). lines_can h q g t t.lines) (any_can h q g)
  unfolding any_can
  any_can_any g = record { none = refl; more = λ x xs. refl }

  -- the first ticket that will do, with its yeses
  pub first_shown_first : (g : Given) → IsFirst (λ (t : Ticket). lines_can h q g t t.lines) (λ t. Some (shown_with h q g t)) None (first_shown h q g)
  unfolding first_shown
  first_shown_first g = record { none = refl; more = λ x xs. refl }

  -- the first yes that serves
  pub first_yes_first : (k : ℕ) → IsFirst (serves h q k) (λ y. y ∷ []) [] (first_yes h q k)
  unfolding first_yes
  first_yes_first k = record { none = refl; more = λ x xs. refl }

  -- the first tied yes that serves
  pub first_tied_first : (k : ℕ) (t : Ticket) → IsFirst (serves_tied h q k t) (λ w. first_yes h q k w.yeses) [] (first_tied h q k t)
  unfolding first_tied
  first_tied_first k t = record { none = refl; more = λ x xs. refl }

  -- the yeses of all lines
  pub yeses_for_join : (g : Given) (t : Ticket) → IsJoin (yeses_of h q g t) (yeses_for h q g t)
  unfolding yeses_for
  yeses_for_join g t = record { none = refl; more = elim [ Limit n ↦ λ xs. refl | Else k ↦ λ xs. refl ] }

-- any number is this one
pub is_in_any : (n : ℕ) → IsAny (λ x. eqb x n) (is_in n)
unfolding is_in
is_in_any n = record { none = refl; more = λ x xs. refl }

-- any ticket has a made of it
pub any_made_of_any : (a : Ticket) → IsAny (made_of a) (any_made_of a)
unfolding any_made_of
any_made_of_any a = record { none = refl; more = λ x xs. refl }

-- a term for each ticket
pub ticket_terms_join : IsJoin (λ t. ticket_sum t ∷ []) ticket_terms
unfolding ticket_terms
ticket_terms_join = record { none = refl; more = λ x xs. refl }

-- a term for each yes
pub yes_terms_join : IsJoin (λ y. yes_sum y ∷ []) yes_terms
unfolding yes_terms
yes_terms_join = record { none = refl; more = λ x xs. refl }

-- a term for each key
pub key_terms_join : IsJoin (λ k. Yes k ∷ []) key_terms
unfolding key_terms
key_terms_join = record { none = refl; more = λ x xs. refl }

-- a tie for each yes
pub ties_of_join : (t : Ticket) → IsJoin (λ y. Tie (ticket_sum t) (yes_sum y) ∷ []) (ties_of t)
unfolding ties_of
ties_of_join t = record { none = refl; more = λ x xs. refl }

-- the ties of all that was tied
pub tied_terms_join : IsJoin (λ (w : Shown). ties_of w.ticket w.yeses) tied_terms
unfolding tied_terms
tied_terms_join = record { none = refl; more = λ x xs. refl }

-- the tickets of what was tied, where they can be made
pub tied_tickets_join : (ts : List Ticket) → IsJoin (λ (w : Shown). cond (any_made_of w.ticket ts) (w.ticket ∷ []) []) (tied_tickets ts)
unfolding tied_tickets
tied_tickets_join ts = record { none = refl; more = λ w ws. split (any_made_of w.ticket ts) w.ticket (tied_tickets ts ws) }
  where
    split : (b : Bool) (x : Ticket) (xs : List Ticket) → cond b (x ∷ xs) xs ≡ cond b (x ∷ []) [] ++ xs
    split true x xs = refl
    split false x xs = refl
