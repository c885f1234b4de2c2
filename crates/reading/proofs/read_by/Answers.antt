use Rattle.reading.proofs.FirstWords.{at_none}
use Rattle.reading.proofs.read_by.Goals as goal

pub returns-in_default : goal.returns-in_default
returns-in_default c = rw c.into.ensures (at_none c.args.first.now c.args.text.now c.in_default.not-house c.in_default.not-key c.in_default.not-ticket c.in_default.not-yes c.in_default.not-add c.in_default.not-tie c.in_default.not-give c.in_default.not-wish c.in_default.not-show)
