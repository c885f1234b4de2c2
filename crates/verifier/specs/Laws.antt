-- What the house's verdict means, in words of its own. Assumes nothing.
use Rattle.std.specs.Prelude.{◌≡◌, true, List, map, is_some, Ok, Err}
use mathlib.Core.List.{Memᴰ}
use Rattle.narrow.specs.Term.{Bytes}
use Rattle.narrow.specs.Ticket as model
use Rattle.narrow.specs.TermBytes.{bytes_of}
use Rattle.narrow.specs.Policy.{today, lets}
use Rattle.parts.specs.Limits.{WishView}
use Rattle.lines.specs.Meaning.{says}
use Rattle.tickets.specs.Making.{Ticket, Yes, Tied, line_added, tied}
use Rattle.tickets.specs.Made.{Secrets, by_hmac, Right, ATicket, AYes}
use Rattle.judging.specs.Laws.{Cause}
use Rattle.showing.specs.Showing.{ShownView, shown, shown_of}
use Rattle.verifier.specs.declared.Refusal.TheVariants.{Unread, WrongMac, UnknownKey, WrongTie, Unmet}
use Rattle.verifier.specs.Verdict.{Verdict, untied, plainly, verdict}

-- the ticket has the bytes of its own term
abbrev pub MacRight : Secrets → ShownView → Type 0
MacRight s v = v.ticket.mac ≡ bytes_of (by_hmac s) (model.ticket_mac v.ticket.of)

-- the house knows the key of each yes
abbrev pub AllKnown : Secrets → ShownView → Type 0
AllKnown s v = (y : Tied) → Memᴰ y v.yeses → is_some (s.key y.of.key) ≡ true

-- each tie has the bytes of its own term
abbrev pub AllTied : Secrets → ShownView → Type 0
AllTied s v = (y : Tied) → Memᴰ y v.yeses → y.mac ≡ bytes_of (by_hmac s) (model.tie_of v.ticket.of y.of)

-- what the bytes show is right: the ticket's MAC, keys and ties, also of yeses that no line asks for
pub record AllRight (s : Secrets) (v : ShownView) : Type 0 where
  pub mac : MacRight s v
  pub known : AllKnown s v
  pub ties : AllTied s v

-- THROUGH, EXACTLY. The bytes are shown right, and the model lets the wish through.
pub record LetThrough (s : Secrets) (bs : Bytes) : Type 0 where
  pub view : ShownView
  pub read : shown_of bs ≡ Ok view
  pub right : AllRight s view
  pub met : lets (today (says view.asked)) (plainly view) ≡ true

abbrev pub ThroughExactly : Type 0
ThroughExactly = (s : Secrets) (bs : Bytes) → (verdict s bs ≡ Ok tt → LetThrough s bs) × (LetThrough s bs → verdict s bs ≡ Ok tt)

-- the condition of each answer, which says that none of a lower number holds
abbrev pub Why : Secrets → Bytes → Verdict → Type 0
Why s bs (Ok _) = LetThrough s bs
Why s bs (Err (Unread f)) = shown_of bs ≡ Err f
Why s bs (Err WrongMac) = (v : ShownView) × (shown_of bs ≡ Ok v) × (MacRight s v → ⊥)
Why s bs (Err UnknownKey) = (v : ShownView) × (shown_of bs ≡ Ok v) × MacRight s v × (AllKnown s v → ⊥)
Why s bs (Err WrongTie) = (v : ShownView) × (shown_of bs ≡ Ok v) × MacRight s v × AllKnown s v × (AllTied s v → ⊥)
Why s bs (Err (Unmet f)) = (v : ShownView) × (shown_of bs ≡ Ok v) × AllRight s v × Cause (says v.asked) v.ticket.of.lines (untied v.yeses) (Err f)

-- An answer is given exactly if its condition holds.
abbrev pub VerdictExactly : Type 0
VerdictExactly = (s : Secrets) (bs : Bytes) (a : Verdict) → (verdict s bs ≡ a → Why s bs a) × (Why s bs a → verdict s bs ≡ a)

-- what is shown with a ticket, each yes tied to it
abbrev pub showing : WishView → Ticket → List Yes → ShownView
showing w t ys = record { asked = w; ticket = t; yeses = map (tied t) ys }

-- A LINE MORE LETS NO MORE THROUGH, ON BYTES: where a ticket with a line added is let through, with ties made for it, the ticket
-- without that line is, with ties made for it.
abbrev pub LineNoMore : Type 0
LineNoMore =
    (s : Secrets) (w : WishView) (t u : Ticket) (l : Bytes) (ys : List Yes) → Right s (ATicket t) → ((y : Yes) → Memᴰ y ys → Right s (AYes y)) →
    line_added t l ≡ Ok u → shown.fits (showing w t ys) ≡ true →
    verdict s (shown.write (showing w u ys)) ≡ Ok tt → verdict s (shown.write (showing w t ys)) ≡ Ok tt
