use Rattle.std.proofs.Common.{Some, ap, ◌∙◌}
use Rattle.std.specs.Option.{option_map}
use Rattle.std.specs.Result.{result_map_both}
use Rattle.texts.specs.Cuts.{words_of}
use Rattle.trouble.proofs.Chains.{hands_on}
use Rattle.script.specs.Rules.{house_sense}
use Rattle.script.specs.Views.{stated}
use Rattle.script.proofs.Senses.{nothing, other, house}
use Rattle.script.proofs.house.HouseOnlyLanguage.read.Goals as goal

pub returns-in_default : goal.returns-in_default
returns-in_default c = nothing c.args.begun _ c.in_default.ensures

pub returns-in_err-read_house-in-house : goal.returns-in_err-read_house-in-house
returns-in_err-read_house-in-house c =
    hands_on (option_map stated) c.from_residual.result stated (house_sense c.args.begun (words_of c.in-Some.rest.now)) _ c.from_residual.ensures.1 c.in_err-read_house-in-house.ensures
    (λ k h. ap (result_map_both Some (λ e. e)) h ∙ house c.args.begun _ c.in-Some.first.now _ c.in-Some.ensures c.in-house.is)

pub returns-in_ok-read_house-in-house : goal.returns-in_ok-read_house-in-house
returns-in_ok-read_house-in-house c =
    ap (result_map_both Some (λ e. e)) c.in_ok-read_house-in-house.ensures ∙ house c.args.begun _ c.in-Some.first.now _ c.in-Some.ensures c.in-house.is

pub returns-in_default-first : goal.returns-in_default-first
returns-in_default-first c = rw c.into.ensures (other c.args.begun _ c.in-Some.first.now _ c.in-Some.ensures c.in_default-first.not-house)
