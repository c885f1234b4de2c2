use Rattle.std.proofs.Common.{sym, ◌∙◌, rules, tests}
use Rattle.std.proofs.lemmas.Iterator.Consumers.{YieldsList-from_first}
use Rattle.std.proofs.lemmas.Iterator.Search.{all_from_yields_List}
use Rattle.narrow.proofs.Rows.{all_list}
use Rattle.narrow.specs.Policy.{met, no_key}
use Rattle.lines.specs.Meaning.{says}
use Rattle.rows.specs.Each.{lines_left}
use Rattle.rows.specs.Row.{rows}
use Rattle.wishes.specs.Views.{wish_view}
use Rattle.judging.proofs.case.Case.holds.Goals as goal

pub returns : goal.returns
returns c =
    let ls = rows c.args.yes.now.limits in
    let v = says (wish_view c.args.self.now.wish) in
    all_from_yields_List (λ l. met no_key (v l)) c.all.new.self _ _ c.all.ensures.ran (YieldsList-from_first (λ x. x.now) lines_left ls c.iter.ensures.lines) (λ x b q k. search (rules, tests)) ∙
    sym (all_list _ ls)
