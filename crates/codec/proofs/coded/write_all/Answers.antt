use Rattle.std.proofs.Common.{◌≡◌, ◌+◌, [], ◌∷◌, ◌++◌, map, take, vec_items, sym, ap, ◌∙◌, append-nil}
use Rattle.std.proofs.lemmas.List.{take_more, take_all, map_push}
use Rattle.narrow.specs.Term.{Bytes}
use Rattle.codec.specs.Format.{write_several}
use Rattle.codec.proofs.Laid.{several_push, laid_on}
use Rattle.codec.proofs.coded.write_all.Goals as goal

pub loop-thing-init : goal.loop-thing-init
unfolding write_several
loop-thing-init g c = sym (append-nil (vec_items c.args.out.now))

pub loop-thing-preserved : goal.loop-thing-preserved
loop-thing-preserved g c =
    let all = c.args.things.now in
    let one = c.thing-item.result in
    let longer : take (c.loop-thing.thing-index + 1) all ≡ take c.loop-thing.thing-index all ++ one ∷ [] =
    take_more all c.loop-thing.thing-index one c.loop-thing-test.true ∙ ap (λ t. take c.loop-thing.thing-index all ++ t ∷ []) (sym c.thing-item.is) in
    laid_on _ _ _ _ _ c.loop-thing.invariant c.in_ok-write.ensures ∙
    ap (λ (b : Bytes). vec_items c.args.out.now ++ b)
    (sym (several_push g.T.Coded.format.write (map g.T.Coded.view (take c.loop-thing.thing-index all)) (g.T.Coded.view one)) ∙
    (ap (write_several g.T.Coded.format.write) (sym (map_push g.T.Coded.view (take c.loop-thing.thing-index all) one)) ∙
    ap (λ ts. write_several g.T.Coded.format.write (map g.T.Coded.view ts)) (sym longer)))

pub returns : goal.returns
returns g c =
    c.loop-thing.invariant ∙
    ap (λ ts. vec_items c.args.out.now ++ write_several g.T.Coded.format.write (map g.T.Coded.view ts)) (take_all c.loop-thing.thing-index c.args.things.now c.loop-thing-test.false)
