use Rattle.std.proofs.Common.{◌≡◌, ◌-◌}
use Rattle.book.specs.Keys.{keys_from}
use Rattle.book.specs.Entries.{keys_view}
use Rattle.book.proofs.read_book.Given as goal

-- what is left to read gives the same as all did when the loop began
abbrev pub invariant-loop : goal.invariant-loop
invariant-loop l =
    (l.book.house.bytes ≡ l.initial.book.house.bytes) ×
    (keys_from l.count (keys_view l.initial.book.keys.entries) l.initial.reader.rest.now ≡
    keys_from (l.count - l.counter) (keys_view l.book.keys.entries) l.reader.rest.now)
