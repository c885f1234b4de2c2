use Rattle.std.proofs.Common.{Ok, ◌∙◌}
use Rattle.texts.proofs.Steps.{so, no, last_so, last_no}
use Rattle.statements.specs.Said.{key_to}
use Rattle.statements.specs.Views.{stated}
use Rattle.trouble.proofs.Chains.{stops}
use Rattle.reading.specs.Forms.{key_said}
use Rattle.reading.proofs.passed.read_key.Goals as goal

pub returns-in_err-key : goal.returns-in_err-key
unfolding key_said
returns-in_err-key c = stops stated c.from_residual.result c.from_residual.ensures.1 (no _ c.in_err-key.ensures)

pub returns-in_err-key_of : goal.returns-in_err-key_of
unfolding key_said
returns-in_err-key_of c = stops stated c.from_residual-in_err-key_of.result c.from_residual-in_err-key_of.ensures.1 (so _ c.in_ok-key.ensures (last_no _ c.in_err-key_of.ensures))

pub returns : goal.returns
unfolding key_said
returns c = so _ c.in_ok-key.ensures ((λ i. Ok (key_to c.in_ok-key_of.field-0.number (c.in_ok-from_str.ensures.ok i))) ∙ last_so _ c.in_ok-key_of.ensures)
