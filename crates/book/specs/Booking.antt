-- The house's book in bytes, and the secrets that it holds. Assumes nothing.
use Rattle.std.specs.Prelude.{ℕ, Bool, List, [], ◌∷◌, ◌++◌, Result}
use Rattle.narrow.specs.Term.{Bytes}
use Rattle.lines.specs.declared.Fault.{Fault}
use Rattle.tickets.specs.Made.{Secrets}
use Rattle.codec.specs.Format.{Format, behind, both, named, whole}
use Rattle.codec.specs.Things.{mac}
use Rattle.book.specs.Keys.{KeyView, secret_in, book_keys}

-- the house's own key, and the keys of yeses that it knows, in the order of the book
pub record BookView : Type 0 where
  pub house : Bytes
  pub keys : List KeyView

abbrev pub book_kind : ℕ
book_kind = 23

-- the house's key, a count, and each key
abbrev pub book : Format BookView
book = behind book_kind (named (λ p. record { house = p.0; keys = p.1 }) (λ b. (b.house, b.keys)) (both mac book_keys))

-- which books there can be: the house's key and every secret of 32 bytes, each number up to 4095, no two the same
abbrev pub is_book : BookView → Bool
is_book = book.fits

-- a book's bytes
abbrev pub book_bytes : BookView → Bytes
book_bytes = book.write

-- the book that these bytes are as a whole, or their first fault
unfoldable pub book_of : Bytes → Result BookView Fault
book_of bs = whole book bs

-- the secrets that a book holds, as terms are made of them
abbrev pub secrets_of : BookView → Secrets
secrets_of b = record { house = b.house; key = secret_in b.keys }

-- a book with one key more, at the end
abbrev pub with_key : BookView → KeyView → BookView
with_key b k = record { house = b.house; keys = b.keys ++ k ∷ [] }
