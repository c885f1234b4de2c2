use Rattle.std.proofs.Common.{Ok, ◌∙◌}
use Rattle.texts.proofs.Steps.{last_so, last_no}
use Rattle.statements.specs.Said.{house_of}
use Rattle.statements.specs.Views.{stated}
use Rattle.trouble.proofs.Chains.{stops}
use Rattle.reading.specs.Forms.{house_said}
use Rattle.reading.proofs.passed.read_house.Goals as goal

pub returns-in_err-seed : goal.returns-in_err-seed
unfolding house_said
returns-in_err-seed c = stops stated c.from_residual.result c.from_residual.ensures.1 (last_no _ c.in_err-seed.ensures)

pub returns : goal.returns
unfolding house_said
returns c = (λ i. Ok (house_of (c.in_ok-from_str.ensures.ok i))) ∙ last_so _ c.in_ok-seed.ensures
