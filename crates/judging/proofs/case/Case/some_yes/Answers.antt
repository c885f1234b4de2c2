use Rattle.std.proofs.Common.{eqb, sym, ◌∙◌, rules, tests}
use Rattle.std.proofs.lemmas.Iterator.{YieldsList-from_slice}
use Rattle.std.proofs.lemmas.Iterator.Search.{any_from_yields_List}
use Rattle.narrow.proofs.Rows.{any_map}
use Rattle.tickets.specs.declared.TiedYes.{TiedYes}
use Rattle.tickets.specs.Views.{yes_body}
use Rattle.judging.proofs.case.Case.some_yes.Goals as goal

pub returns : goal.returns
returns c =
    let ys = c.args.self.now.yeses.now in
    any_from_yields_List (λ (y : TiedYes). eqb y.body.key.number c.args.key.number) _ _ _ c.any.ensures.ran (YieldsList-from_slice ys c.iter.ensures.rest) (λ x b q k. search (rules, tests)) ∙
    sym (any_map (λ (y : TiedYes). yes_body y.body) _ ys)
