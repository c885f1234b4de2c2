use Rattle.std.proofs.Common.{◌≡◌}
use Rattle.std.proofs.lemmas.Result.{IfOk-weaker}
use Rattle.scripts.specs.Laws.{HouseOpensFirst}
use Rattle.scripts.specs.Rules.{reads}
use Rattle.scripts.specs.Views.{told}
use Rattle.scripts.proofs.HouseFirst.{house_first}
use Rattle.scripts.proofs.read_script.Goals as goal

pub returns-clause-house_first : goal.returns-clause-house_first
returns-clause-house_first c =
    IfOk-weaker c.read_script.result (λ s. told s ≡ reads c.args.text.now) (λ s. HouseOpensFirst (told s).said) (λ s e. house_first c.args.text.now (told s) e) c.read_script.ensures.rules
