use Rattle.std.proofs.lemmas.Bool.{le-leb}
use Rattle.parts.specs.Limits.{ALimit, AnElse}
use Rattle.lines.specs.Views.{limit_view}
use Rattle.lines.proofs.Meanings.{lines_back}
use Rattle.lines.proofs.Line.write.Goals as goal

pub returns-in-Limit-clause-back : goal.returns-in-Limit-clause-back
returns-in-Limit-clause-back c = rw c.in-Limit.is (lines_back (ALimit (limit_view c.in-Limit.limit)) c.write.ensures.possible)

pub returns-in-Else-clause-back : goal.returns-in-Else-clause-back
returns-in-Else-clause-back c = let key = c.in-Else.key in rw c.in-Else.is (lines_back (AnElse key.number) (le-leb key.number 4095 key.known))
