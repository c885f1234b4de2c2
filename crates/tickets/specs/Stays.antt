-- What is right stays so when a line is added: the law of each body, and what it rests on. Assumes nothing.
use Rattle.std.specs.Prelude.{◌≡◌, ◌<◌, true, List, ◌∷◌, length, Ok, Result}
use Rattle.std.proofs.Common.{sym, ap, ◌∙◌}
use Rattle.narrow.specs.Term.{Bytes, Term, Secret, Mac, House, KeyOf}
use Rattle.narrow.specs.Ticket as model
use Rattle.narrow.specs.TermBytes.{bytes_of}
use Rattle.narrow.proofs.Terms.{macs_push}
use Rattle.hmac.specs.Hmac.{hmac_of}
use Rattle.lines.specs.declared.Fault.{Fault}
use Rattle.lines.specs.declared.Place.TheVariants as place
use Rattle.rows.specs.Standing.{most_at, stands, pushed}
use Rattle.rows.proofs.Exactly.{mapped_value}
use Rattle.rows.proofs.Pushing.{push_parts}
use Rattle.tickets.specs.Made.{ATicket, AYes, Secrets, by_hmac, StaysRight}
use Rattle.tickets.specs.Making.{Maced, ticket_longer, yes_longer, added}

module _ {A : Type 0} (longer : A → Bytes → Result A Fault) (t u : Maced A) (l : Bytes) (e : added longer t l ≡ Ok u) where
  -- what was made longer, and its MAC
  pub parts : (longer t.of l ≡ Ok u.of) × (u.mac ≡ hmac_of t.mac l)
  unfolding added
  parts = let (a, q, same) = mapped_value (longer t.of l) u e in (q ∙ ap (λ (v : Maced A). Ok v.of) same, ap (λ (v : Maced A). v.mac) (sym same))

  -- where its term grows by the line, it is right if it was
  right_longer : (s : Secrets) (term : A → Term) → ((a b : A) → longer a l ≡ Ok b → term b ≡ Mac (term a) l) →
      t.mac ≡ bytes_of (by_hmac s) (term t.of) → u.mac ≡ bytes_of (by_hmac s) (term u.of)
  unfolding bytes_of
  right_longer s term grows r =
      parts.1 ∙ (ap (λ (b : Bytes). hmac_of b l) r ∙ ap (bytes_of (by_hmac s)) (sym (grows t.of u.of parts.0)))

-- a ticket of the model with one line more: there was room for it, and it may stand there
pub ticket_last : (t u : model.Ticket) (l : Bytes) → ticket_longer t l ≡ Ok u → (u ≡ model.with_line t l) × (length t.lines < most_at place.Ticket) × (stands place.Ticket l ≡ true)
ticket_last t u l e =
    let (more, q, same) = mapped_value (pushed place.Ticket t.lines l) u e in
    let (longer, room, here) = push_parts place.Ticket t.lines l more q in
    (sym same ∙ ap (λ (ls : List Bytes). record { number = t.number; lines = ls }) longer, room, here)

pub yes_last : (y z : model.Yes) (l : Bytes) → yes_longer y l ≡ Ok z → z ≡ model.with_limit y l
yes_last y z l e =
    let (more, q, same) = mapped_value (pushed place.Yes y.lines l) z e in
    sym same ∙ ap (λ (ls : List Bytes). record { key = y.key; lines = ls }) (push_parts place.Yes y.lines l more q).0

pub right_line : StaysRight ticket_longer ATicket
right_line s t u l e =
    right_longer ticket_longer t u l e s model.ticket_mac
    (λ a b q. ap model.ticket_mac (ticket_last a b l q).0 ∙ macs_push (Secret House) (a.number ∷ a.lines) l)

pub right_limit : StaysRight yes_longer AYes
right_limit s y z l e =
    right_longer yes_longer y z l e s model.yes_mac
    (λ a b q. ap model.yes_mac (yes_last a b l q) ∙ macs_push (Secret (KeyOf a.key)) (model.yes_message ∷ a.lines) l)
