use Rattle.std.proofs.Common.{List, ap, ◌∙◌}
use Rattle.hmac.specs.declared.Mac.{Mac}
use Rattle.parts.specs.declared.KeyNumber.{KeyNumber}
use Rattle.book.specs.Entries.{keys_view}
use Rattle.book.specs.Keys.{apart}
use Rattle.book.proofs.Keyed.{apart_none}
use Rattle.book.proofs.held.Book.new.Goals as goal

pub invariant_of-result : goal.invariant_of-result
invariant_of-result c = record { apart = ap (λ (es : List (KeyNumber × Mac)). apart (keys_view es)) c.new.ensures.empty ∙ apart_none }
