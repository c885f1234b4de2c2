use Rattle.std.proofs.Common.{◌≡◌, ◌-◌, map, vec_items, vec_len}
use Rattle.tickets.specs.Views.{tied_view}
use Rattle.codec.specs.Format.{read_several}
use Rattle.codec.specs.Things.{tied}
use Rattle.showing.proofs.Several.{after}
use Rattle.showing.proofs.read_yeses.Given as goal

-- what was read, and then what is left to read, gives the same as all did when the loop began
abbrev pub invariant-loop : goal.invariant-loop
invariant-loop l =
    (vec_len l.yeses ≡ l.counter) ×
    (read_several tied.read l.count l.initial.reader.rest.now ≡ after (map tied_view (vec_items l.yeses)) (read_several tied.read (l.count - l.counter) l.reader.rest.now))
