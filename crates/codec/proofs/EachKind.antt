-- Every kind is exact. Assumes nothing.
use Rattle.std.proofs.Common.{refl}
use Rattle.narrow.specs.Term.{mac_length}
use Rattle.lines.specs.declared.Place.TheVariants.{Ticket, Yes}
use Rattle.codec.specs.Format.{Format, two_byte}
use Rattle.codec.specs.Laws.{Exact, FormatsExact}
use Rattle.codec.specs.Things.{ticket_body_format, yes_body_format, maced, key_number, mac, ticket, yes, tied, passed, key, yes_kind, tied_kind, passed_kind, key_kind, ticket_kind, number_length}
use Rattle.codec.proofs.Combined.{fixed_exact, two_byte_exact, row_exact, behind_exact, both_exact, only_exact, named_exact}
use Rattle.codec.proofs.Wholly.{inverse}

pub key_number_exact : Exact key_number
key_number_exact = only_exact two_byte two_byte_exact _ _

pub maced_exact : {A : Type 0} (f : Format A) → Exact f → Exact (maced f)
maced_exact f x = named_exact _ (both_exact f mac x (fixed_exact mac_length)) _ _ (λ a. refl) (λ b. refl)

pub ticket_body_exact : Exact ticket_body_format
ticket_body_exact = behind_exact _ (named_exact _ (both_exact _ _ (fixed_exact number_length) (only_exact _ (row_exact Ticket) _ _)) _ _ (λ a. refl) (λ b. refl)) ticket_kind

pub yes_body_exact : (k : _) → Exact (yes_body_format k)
yes_body_exact k = behind_exact _ (named_exact _ (both_exact _ _ key_number_exact (row_exact Yes)) _ _ (λ a. refl) (λ b. refl)) k

pub ticket_exact : Exact ticket
ticket_exact = maced_exact ticket_body_format ticket_body_exact

pub yes_exact : Exact yes
yes_exact = maced_exact (yes_body_format yes_kind) (yes_body_exact yes_kind)

pub tied_exact : Exact tied
tied_exact = maced_exact (yes_body_format tied_kind) (yes_body_exact tied_kind)

pub passed_exact : Exact passed
passed_exact = behind_exact _ (both_exact ticket_body_format tied ticket_body_exact tied_exact) passed_kind

pub key_exact : Exact key
key_exact = behind_exact _ (both_exact key_number mac key_number_exact (fixed_exact mac_length)) key_kind

pub formats_exact : FormatsExact
formats_exact =
    record {
      tickets = (ticket_exact, inverse ticket ticket_exact);
      yeses = (yes_exact, inverse yes yes_exact);
      ties = (tied_exact, inverse tied tied_exact);
      passed_on = (passed_exact, inverse passed passed_exact);
      keys = (key_exact, inverse key key_exact);
    }
