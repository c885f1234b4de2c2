-- The forms of the statements by which tickets, yeses and ties are made. Assumes nothing.
use Rattle.std.specs.Prelude.{ℕ, List, codes, Result}
use Rattle.texts.specs.declared.Cause.{Cause}
use Rattle.texts.specs.Labels.{labelled, pair_after}
use Rattle.texts.specs.Numerals.{number_of}
use Rattle.texts.specs.Results.{and_then, and_is}
use Rattle.words.specs.Lines.{key_of}
use Rattle.statements.specs.Said.{Said, ticket_to, yes_by, add_by, tie_by}
use Rattle.making.specs.Cuts.{lines_in, limits_in, parts_in}

-- `ticket T = NUMBER: LINE; LINE to PERSON`
unfoldable pub ticket_said : List ℕ → Result Said Cause
ticket_said text =
    and_then (parts_in (codes "ticket") (codes "to") text) (λ m. and_then (number_of 4294967295 m.word) (λ n. and_is (lines_in m.front) (λ ls. ticket_to m.name n ls m.person)))

-- `yes Y = K: LIMIT; LIMIT by PERSON`
unfoldable pub yes_said : List ℕ → Result Said Cause
yes_said text =
    and_then (parts_in (codes "yes") (codes "by") text) (λ m. and_then (key_of m.word) (λ k. and_is (limits_in m.front) (λ ls. yes_by m.name k ls m.person)))

-- `add X = OLD: LINE; LINE by PERSON`
unfoldable pub add_said : List ℕ → Result Said Cause
add_said text = and_then (parts_in (codes "add") (codes "by") text) (λ m. and_is (lines_in m.front) (λ ls. add_by m.name m.word ls m.person))

-- `tie Z = Y to T by PERSON`
unfoldable pub tie_said : List (List ℕ) → Result Said Cause
tie_said ws =
    and_then (labelled (codes "tie") ws) (λ z. and_then (labelled (codes "=") z.1) (λ y. and_is (pair_after (codes "to") (codes "by") y.1) (λ t. tie_by z.0 y.0 t.0 t.1)))
