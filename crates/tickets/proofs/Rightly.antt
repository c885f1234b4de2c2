-- What is made of right things is right. Assumes nothing.
use Rattle.std.proofs.Common.{◌≡◌, ℕ, ◌<◌, true, length, replicate, Some, Ok, Option, unwrap_or, sym, refl, ap}
use Rattle.narrow.specs.Term.{Bytes, mac_length, macs}
use Rattle.narrow.specs.Ticket as model
use Rattle.narrow.specs.TermBytes.{bytes_of, tie_message}
use Rattle.hmac.specs.Hmac.{hmac_of}
use Rattle.lines.specs.declared.Place.TheVariants as place
use Rattle.rows.specs.Standing.{most_at, stands}
use Rattle.tickets.specs.Making.{Ticket, Yes, ticket_longer, yes_longer, line_added, limit_added, number_maced, new_ticket, new_yes, tied}
use Rattle.tickets.specs.Made as made
use Rattle.tickets.specs.Made.{Thing, ATicket, AYes, ATied, AKey, Secrets, by_hmac, Right, Made}
use Rattle.tickets.specs.Laws.{MadeRight, AddedLast}
use Rattle.tickets.specs.Stays.{parts, ticket_last, yes_last, right_line, right_limit}

pub line_last : (t u : Ticket) (l : Bytes) → line_added t l ≡ Ok u → (u.of ≡ model.with_line t.of l) × (u.mac ≡ hmac_of t.mac l)
line_last t u l e = let (q, maced) = parts ticket_longer t u l e in ((ticket_last t.of u.of l q).0, maced)

-- there was room for it, and it may stand there
pub line_room : (t u : Ticket) (l : Bytes) → line_added t l ≡ Ok u → (length t.of.lines < most_at place.Ticket) × (stands place.Ticket l ≡ true)
line_room t u l e = let last = ticket_last t.of u.of l (parts ticket_longer t u l e).0 in (last.1, last.2)

limit_last : (y z : Yes) (l : Bytes) → limit_added y l ≡ Ok z → (z.of ≡ model.with_limit y.of l) × (z.mac ≡ hmac_of y.mac l)
limit_last y z l e = let (q, maced) = parts yes_longer y z l e in (yes_last y.of z.of l q, maced)

pub added_last : AddedLast
added_last = record { line = line_last; limit = limit_last }

pub right_new : (s : Secrets) (n l : Bytes) (t : Ticket) → new_ticket s.house n l ≡ Ok t → Right s (ATicket t)
unfolding new_ticket bytes_of macs
right_new s n l t e = right_line s (number_maced s.house n) t l e refl

pub right_yes : (s : Secrets) (k : ℕ) (b : Bytes) → Right s (AKey k b) → Right s (AYes (new_yes k b))
unfolding new_yes bytes_of macs
right_yes s k b r = ap (λ (c : Bytes). hmac_of c model.yes_message) r

pub right_tie : (s : Secrets) (t : Ticket) (y : Yes) → Right s (ATicket t) → Right s (AYes y) → Right s (ATied t.of (tied t y))
unfolding tied bytes_of
right_tie s t y r q = λ i. hmac_of (r i) (tie_message (q i))

right_key : (s : Secrets) (k : ℕ) (b : Bytes) → s.key k ≡ Some b → Right s (AKey k b)
unfolding bytes_of
right_key s k b e = sym (ap (λ (o : Option Bytes). unwrap_or o (replicate mac_length 0)) e)

pub made_right : MadeRight
made_right s x (made.ticket n l t long e) = right_new s n l t e
made_right s x (made.line t u l m e) = right_line s t u l e (made_right s (ATicket t) m)
made_right s x (made.key k b e) = right_key s k b e
made_right s x (made.yes k b m) = right_yes s k b (made_right s (AKey k b) m)
made_right s x (made.limit y z l m e) = right_limit s y z l e (made_right s (AYes y) m)
made_right s x (made.tie t y m n) = right_tie s t y (made_right s (ATicket t) m) (made_right s (AYes y) n)
