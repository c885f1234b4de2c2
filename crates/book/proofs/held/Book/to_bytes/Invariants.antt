use Rattle.std.proofs.Common.{◌≡◌, ◌++◌, vec_items}
use Rattle.codec.specs.Format.{write_several}
use Rattle.codec.specs.Things.{key}
use Rattle.book.specs.Entries.{keys_view}
use Rattle.book.proofs.held.Book.to_bytes.Given as goal

-- with the keys that are left, all that is to be written
abbrev pub invariant-loop-number : goal.invariant-loop-number
invariant-loop-number l =
    vec_items l.out ++ write_several key.write (keys_view l.number-iterator) ≡ vec_items l.initial.out ++ write_several key.write (keys_view l.self.keys.entries)
