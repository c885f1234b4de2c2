use Rattle.std.proofs.Common.{is_some, sym, ◌∙◌, rules, tests}
use Rattle.std.proofs.lemmas.Iterator.{YieldsList-from_slice}
use Rattle.std.proofs.lemmas.Iterator.Search.{all_from_yields_List}
use Rattle.narrow.proofs.Rows.{all_map}
use Rattle.tickets.specs.declared.TiedYes.{TiedYes}
use Rattle.tickets.specs.Views.{tied_view}
use Rattle.verifier.specs.Stages.{secrets}
use Rattle.verifier.proofs.right.all_known.Goals as goal

pub returns : goal.returns
returns c =
    let s = secrets c.args.book.now in
    let ys = c.args.yeses.now in
    all_from_yields_List (λ (y : TiedYes). is_some (s.key (tied_view y).of.key)) c.all.new.self _ _ c.all.ensures.ran (YieldsList-from_slice ys c.iter.ensures.rest) (λ x b q k. search (rules, tests)) ∙
    sym (all_map tied_view _ ys)
