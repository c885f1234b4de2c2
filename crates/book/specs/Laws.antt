-- What holds of books. Assumes nothing.
use Rattle.std.specs.Prelude.{◌≡◌, ℕ, ◌<◌, ◌≤◌, true, ◌∷◌, ◌++◌, length, Some, Ok, Err, ◌≢◌, slice_index_or}
use Rattle.narrow.specs.Term.{Bytes}
use Rattle.numbers.specs.Bytes.{two_bytes}
use Rattle.lines.specs.declared.Fault.TheVariants.{Unreadable}
use Rattle.parts.specs.Limits.{last_key}
use Rattle.codec.specs.Format.{write_several}
use Rattle.codec.specs.Laws.{Exact, Inverse}
use Rattle.codec.specs.Things.{key_kind, key}
use Rattle.book.specs.Keys.{KeyView, secret_in, taken}
use Rattle.book.specs.Booking.{BookView, book_kind, book, is_book, book_bytes, book_of}

-- A book is read back as it was, and only that is read; cut short anywhere, or with bytes left over, it has fault 1.
pub record BookExact : Type 0 where
  pub format : Exact book × Inverse book
  pub back : (b : BookView) → is_book b ≡ true → book_of (book_bytes b) ≡ Ok b
  pub only : (bs : Bytes) (b : BookView) → book_of bs ≡ Ok b → (is_book b ≡ true) × (bs ≡ book_bytes b)

-- the bytes of a book of this house and these keys that is to have so many, up to the number of the next one, and what follows that
unfoldable pub up_to_number : BookView → ℕ → ℕ → Bytes → Bytes
up_to_number b count n more = book_kind ∷ (b.house ++ (two_bytes count ++ (write_several key.write b.keys ++ (key_kind ∷ (two_bytes n ++ more)))))

-- In a book that is read no two keys have one number, so that each is found by its own, and there are at most 4096. A second key of
-- a number, and a number past 4095, are fault 2 whatever follows that number, be it nothing.
pub record OneOfANumber : Type 0 where
  pub apart : (bs : Bytes) (b : BookView) → book_of bs ≡ Ok b → (i j : ℕ) (d : KeyView) → i < j → j < length b.keys → (slice_index_or b.keys i d).0 ≢ (slice_index_or b.keys j d).0
  pub found : (bs : Bytes) (b : BookView) → book_of bs ≡ Ok b → (i : ℕ) (d : KeyView) → i < length b.keys → secret_in b.keys (slice_index_or b.keys i d).0 ≡ Some (slice_index_or b.keys i d).1
  pub few : (bs : Bytes) (b : BookView) → book_of bs ≡ Ok b → length b.keys ≤ 4096
  pub second : (b : BookView) → is_book b ≡ true → (count n : ℕ) (more : Bytes) → length b.keys < count → taken b.keys n ≡ true → book_of (up_to_number b count n more) ≡ Err Unreadable
  pub past : (b : BookView) → is_book b ≡ true → (count n : ℕ) (more : Bytes) → length b.keys < count → last_key < n → book_of (up_to_number b count n more) ≡ Err Unreadable
