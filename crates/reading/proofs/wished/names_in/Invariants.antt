use Rattle.std.proofs.Common.{vec_items, string_bytes}
use Rattle.reading.proofs.Names.{Sofar}
use Rattle.reading.proofs.wished.names_in.Given as goal

abbrev pub invariant-loop-word : goal.invariant-loop-word
invariant-loop-word l = Sofar string_bytes (vec_items l.names) l.word-iterator l.text
