-- What code for this system must be: what the house lets through, and what the program answers.
-- Assumes nothing.
use Rattle.std.specs.Prelude.{◌≡◌, ℕ, ◌+◌, ◌≤◌, Bool, true, false, ◌&&◌, List, [], ◌∷◌, length, ◌==◌}
use Rattle.narrow.specs.Numbered.Term.{Term, Tie}
use Rattle.narrow.specs.Numbered.Ticket.{Holds, Ticket, YesWord, ticket_sum, yes_sum, Shown, lets, Given, shows, Maybe}

-- bytes, as numbers
abbrev pub Bytes : Type 0
Bytes = List ℕ

-- what comes to the house: what is shown, the sum of the ticket, and for each yes its tie, in bytes
pub record Coming : Type 0 where
  pub shown : Shown
  pub sum : Bytes
  pub ties : List Bytes

-- the two are the same bytes
unfoldable pub same_bytes : Bytes → Bytes → Bool
same_bytes [] [] = true
same_bytes [] (y ∷ ys) = false
same_bytes (x ∷ xs) [] = false
same_bytes (x ∷ xs) (y ∷ ys) = x == y && same_bytes xs ys

-- the bytes are those of the ties, one for each yes
unfoldable pub ties_are : (Term → Bytes) → Ticket → List YesWord → List Bytes → Bool
ties_are m t [] [] = true
ties_are m t [] (x ∷ xs) = false
ties_are m t (y ∷ ys) [] = false
ties_are m t (y ∷ ys) (x ∷ xs) = same_bytes x (m (Tie (ticket_sum t) (yes_sum y))) && ties_are m t ys xs

-- the house, and the program that says what to show; bytes_of gives the bytes of each term under the keys of the house, by HMAC
pub record Code (h : Holds) (bytes_of : Term → Bytes) : Type 0 where
  pub lets_through : (wish : ℕ) → Coming → Bool
  pub lets_so : (q : ℕ) (c : Coming) → length c.shown.ticket.lines ≤ 32 → length c.shown.yeses ≤ 32 →
      lets_through q c ≡ (same_bytes c.sum (bytes_of (ticket_sum c.shown.ticket)) && (ties_are bytes_of c.shown.ticket c.shown.yeses c.ties && lets h q c.shown))
  pub says : (wish : ℕ) → Given → Maybe
  pub says_so : (q : ℕ) (g : Given) → length g.tickets + length g.yeses + length g.tied + length g.keys ≤ 64 → says q g ≡ shows h q g
