use Rattle.std.proofs.Common.{◌≡◌, [], ◌∷◌, ◌++◌, map, length, ap, ◌∙◌, lit<, rules}
use Rattle.std.proofs.lemmas.List.{length-map}
use Rattle.sha256.proofs.Lanes.{lane_at}
use Rattle.sha256.proofs.Lists.{eight_is}
use Rattle.hmac.proofs.midstates.outer_block.Goals as goal

pub returns : goal.returns
returns g c l m =
    let v = c.args.v in
    let lane = g.W.Word.lane l in
    let at = lane_at lane v in
    let n : length v ≡ 8 = search rules in
    let whole = ap (λ x. x ++ 0x80000000 ∷ 0 ∷ 0 ∷ 0 ∷ 0 ∷ 0 ∷ 0 ∷ 768 ∷ []) (eight_is (map lane v) (length-map v lane ∙ n)) in
    cc (whole, c.splat-one.ensures l m, c.splat-zero.ensures l m, c.splat-bits.ensures l m, at 0 8 c.index-v-0.result n (lit< tt), at 1 8 c.index-v-1.result n (lit< tt), at 2 8 c.index-v-2.result n (lit< tt), at 3 8 c.index-v-3.result n (lit< tt), at 4 8 c.index-v-4.result n (lit< tt), at 5 8 c.index-v-5.result n (lit< tt), at 6 8 c.index-v-6.result n (lit< tt), at 7 8 c.index-v-7.result n (lit< tt))
