use Rattle.std.proofs.Common.{◌≡◌, List, ℕ, length, ◌∙◌, ap, sym, rules}
use Rattle.std.specs.List.{fold, zip}
use Rattle.std.proofs.lemmas.Bool.Decides.{Decides-eqb}
use Rattle.std.proofs.lemmas.Iterator.{YieldsList-from_slice, YieldsList-from_zip}
use Rattle.std.proofs.lemmas.Iterator.Consumers.{fold_from_yields_List}
use Rattle.hmac.proofs.Comparing.{gather, same_from_none, none_from_same}
use Rattle.hmac.proofs.Mac.same.Goals as goal

pub returns : goal.returns
returns c =
    let a : List ℕ = c.args.self.bytes in
    let b : List ℕ = c.args.other.bytes in
    let n : length a ≡ length b = search rules in
    let r : c.fold.result ≡ fold gather 0 (zip a b) = fold_from_yields_List _ gather 0 c.fold.result c.fold.ensures.ran (YieldsList-from_zip (YieldsList-from_slice a cc) (YieldsList-from_slice b cc)) (λ d x e q call. search rules) in
    let d = Decides-eqb c.fold.result 0 in (
      λ h. (same_from_none a b 0 n (sym r ∙ d.0 h)).1,
      λ h. d.1 (r ∙ ap (λ x. fold gather 0 (zip a x)) (sym h) ∙ none_from_same a),
    )
