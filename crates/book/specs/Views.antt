-- What the code's books stand for. Assumes nothing.
use Rattle.std.specs.Prelude.{◌≡◌, true, false, Ok, Err, Result}
use Rattle.book.specs.declared.held.Book.{Book}
use Rattle.book.specs.declared.held.AddError.{AddError}
use Rattle.book.specs.declared.held.AddError.TheVariants.{Taken, NoMemory}
use Rattle.book.specs.Keys.{KeyView, taken}
use Rattle.book.specs.Booking.{BookView, with_key}
use Rattle.book.specs.Entries.{keys_view}

-- the house's key, and the entries of its map
abbrev pub book_view : Book → BookView
book_view b = record { house = b.house.bytes; keys = keys_view b.keys.entries }

-- a key is added at the end where its number is free; where it is refused, nothing has changed
abbrev pub Added : {A : Type 0} → BookView → KeyView → BookView → Result A AddError → Type 0
Added before k after (Ok _) = (taken before.keys k.0 ≡ false) × (after ≡ with_key before k)
Added before k after (Err Taken) = (taken before.keys k.0 ≡ true) × (after ≡ before)
Added before k after (Err NoMemory) = (taken before.keys k.0 ≡ false) × (after ≡ before)
