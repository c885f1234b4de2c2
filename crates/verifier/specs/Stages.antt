-- The stages of the house's verdict, as the code passes them on. Assumes nothing.
use Rattle.std.specs.Prelude.{◌≡◌, Bool, true, ◌&&◌, List, is_some, Ok, Err, Result}
use Rattle.narrow.specs.Rows.{all}
use Rattle.narrow.specs.Term.{Bytes}
use Rattle.narrow.specs.Ticket as model
use Rattle.narrow.specs.TermBytes.{bytes_of, tie_message}
use Rattle.narrow.specs.Can.{same_bytes}
use Rattle.hmac.specs.Hmac.{hmac_of}
use Rattle.tickets.specs.Making.{Tied}
use Rattle.tickets.specs.Made.{Secrets, by_hmac}
use Rattle.book.specs.declared.held.Book.{Book}
use Rattle.book.specs.Booking.{secrets_of}
use Rattle.book.specs.Views.{book_view}
use Rattle.showing.specs.Showing.{ShownView}
use Rattle.std.specs.declared.alloc.AllocError.{AllocError}
use Rattle.lines.specs.declared.Fault.{Fault}
use Rattle.trouble.specs.declared.Trouble.{Trouble}
use Rattle.trouble.specs.declared.Trouble.TheVariants as trouble
use Rattle.verifier.specs.declared.State.{State}
use Rattle.verifier.specs.declared.Refusal.TheVariants as refusal
use Rattle.verifier.specs.Verdict.{Verdict, right_mac, known_keys, right_ties}

-- the secrets of a book
abbrev pub secrets : Book → Secrets
secrets b = secrets_of (book_view b)

-- MAC, keys and ties are right
pub record Passes (s : Secrets) (v : ShownView) : Type 0 where
  pub mac : right_mac s v.ticket ≡ true
  pub known : known_keys s v.yeses ≡ true
  pub ties : right_ties s v.ticket.of v.yeses ≡ true

-- the tie is that of the yes to a ticket that has this MAC
abbrev pub tie_is : Secrets → Bytes → Tied → Bool
tie_is s mac y = same_bytes y.mac (hmac_of mac (tie_message (bytes_of (by_hmac s) (model.yes_mac y.of))))

-- the house knows its key too
abbrev pub known_tie : Secrets → Bytes → Tied → Bool
known_tie s mac y = is_some (s.key y.of.key) && tie_is s mac y

-- each of them is so tied
abbrev pub tied_to : Secrets → Bytes → List Tied → Bool
tied_to s mac ys = all (tie_is s mac) ys

-- the answer for what can't be read: its fault, with the state as it was; only want of memory is an error
abbrev pub Unreadable : Trouble Fault → State → Result (Verdict × State) AllocError → Type 0
Unreadable (trouble.Unreadable f) s r = r ≡ Ok (Err (refusal.Unread f), s)
Unreadable trouble.NoMemory s (Ok p) = ⊥
Unreadable trouble.NoMemory s (Err e) = Unit {0}
