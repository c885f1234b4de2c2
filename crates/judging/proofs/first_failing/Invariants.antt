use Rattle.std.proofs.Common.{◌≡◌, Bool, ◌+◌, ◌<◌, position, None}
use Prim.Native.Nat.{◌^◌}
use Rattle.std.specs.Borrow.{Bor}
use Rattle.std.specs.List.{position_from}
use Rattle.narrow.specs.Term.{Bytes}
use Rattle.rows.specs.Each.{lines_left}
use Rattle.rows.specs.Row.{rows}
use Rattle.judging.proofs.first_failing.Given as goal

-- none has failed, and the first that does is the first of those that are left
abbrev pub invariant-lines : goal.invariant-lines
invariant-lines g l =
    (l.failing ≡ None)
    × (l.place + (goal.iterator-lines g).remaining l.line-iterator < 2 ^ 64)
    × ((test : Bytes → Bool) → ((x : Bor Bytes) (b : Bool) → goal.F-post g l.fails x b → b ≡ test x.now) → position test (rows l.lines) ≡ position_from test l.place (lines_left l.line-iterator))
