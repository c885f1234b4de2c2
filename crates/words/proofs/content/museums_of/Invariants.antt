use Rattle.words.proofs.Listing.{Sofar}
use Rattle.words.proofs.content.museums_of.Given as goal

abbrev pub invariant-loop-part : goal.invariant-loop-part
invariant-loop-part l = Sofar l.list.items l.part-iterator l.word
