-- What lines say, which tickets and yeses count, and what the house lets through. Assumes nothing.
use Rattle.std.specs.Prelude.{◌≡◌, ℕ, Bool, true, false, ◌&&◌, List, length, ◌==◌, nat_le}
use Rattle.narrow.specs.Rows.{any, all}
use Rattle.narrow.specs.Term.{Bytes}
use Rattle.narrow.specs.Ticket.{Ticket, Yes, Extends, Shown}

-- what a line says of the wish in question: a limit, that holds or does not; that the holder of key k must say yes; or nothing
-- that can be read
pub data Says : Type 0 where
  Limit : Bool → Says
  Else : ℕ → Says
  Unreadable : Says

-- what a line says for a wish
abbrev pub Meaning : Type 0
Meaning = Bytes → Says

-- what the house goes by: what lines say, which tickets it takes at all, and of which keys it uses the yeses
pub record Policy : Type 0 where
  pub says : Meaning
  pub takes : Ticket → Bool
  pub uses : ℕ → Bool

-- a ticket that is taken is taken without its last lines too
abbrev pub Closed : Policy → Type 0
Closed p = (t s : Ticket) → Extends t s → p.takes t ≡ true → p.takes s ≡ true

-- how many lines a ticket has at the most
abbrev pub most_lines : ℕ
most_lines = 32

-- how many yeses are shown at the most
abbrev pub most_yeses : ℕ
most_yeses = 32

-- the policy of today, by the meaning of lines: tickets of at most 32 lines, and the yeses of all keys
abbrev pub today : Meaning → Policy
today v = record { says = v; takes = λ t. nat_le (length t.lines) most_lines; uses = λ k. true }

-- a line is met, where `served` tells for which keys there is a yes; the same for tickets and yeses
abbrev pub met : (ℕ → Bool) → Says → Bool
met served (Limit b) = b
met served (Else k) = served k
met served Unreadable = false

-- all lines of a row are met
abbrev pub all_met : Meaning → (ℕ → Bool) → List Bytes → Bool
all_met v served ls = all (λ l. met served (v l)) ls

-- no key is served: so it is for the lines of a yes
abbrev pub no_key : ℕ → Bool
no_key k = false

-- all of a yes's lines are limits that hold
abbrev pub holds : Meaning → Yes → Bool
holds v y = all_met v no_key y.lines

-- a yes serves for else k
abbrev pub serves : Policy → ℕ → Yes → Bool
serves p k y = p.uses k && (y.key == k && holds p.says y)

-- the house lets the wish through for what is shown. That the MAC and the ties are right is asked apart, by `CanShow`, and
-- where there are bytes
unfoldable pub lets : Policy → Shown → Bool
lets p s = p.takes s.ticket && all_met p.says (λ k. any (serves p k) s.yeses) s.ticket.lines
