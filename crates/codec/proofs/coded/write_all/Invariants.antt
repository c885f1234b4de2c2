use Rattle.std.proofs.Common.{◌≡◌, ◌++◌, map, take, vec_items}
use Rattle.codec.specs.Format.{write_several}
use Rattle.codec.proofs.coded.write_all.Given as goal

abbrev pub invariant-loop-thing : goal.invariant-loop-thing
invariant-loop-thing g l =
    vec_items l.out ≡ vec_items l.initial.out ++ write_several g.T.Coded.format.write (map g.T.Coded.view (take l.thing-index l.things))
