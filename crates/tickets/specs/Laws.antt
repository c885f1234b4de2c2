-- What holds of all that is made, and of adding. Assumes nothing.
use Rattle.std.specs.Prelude.{◌≡◌, Ok}
use Rattle.narrow.specs.Term.{Bytes}
use Rattle.narrow.specs.Ticket as model
use Rattle.hmac.specs.Hmac.{hmac_of}
use Rattle.tickets.specs.Making.{Ticket, Yes, line_added, limit_added}
use Rattle.tickets.specs.Made.{Thing, Secrets, Right, Made}

-- All that is made from a house's secrets has the bytes of its own term.
abbrev pub MadeRight : Type 0
MadeRight = (s : Secrets) (x : Thing) → Made s x → Right s x

-- A line is added at the end, and all that was there before stays; the new MAC is that of the line under the one before, whatever
-- that was.
pub record AddedLast : Type 0 where
  pub line : (t u : Ticket) (l : Bytes) → line_added t l ≡ Ok u → (u.of ≡ model.with_line t.of l) × (u.mac ≡ hmac_of t.mac l)
  pub limit : (y z : Yes) (l : Bytes) → limit_added y l ≡ Ok z → (z.of ≡ model.with_limit y.of l) × (z.mac ≡ hmac_of y.mac l)
