use Rattle.std.proofs.Common.{◌≡◌, ◌++◌, map, length, replicate, ap, ◌∙◌, lit<, rules}
use lib.Bits.{bit_xor}
use Rattle.std.proofs.lemmas.List.{length-map}
use Rattle.sha256.proofs.Lanes.{lane_at}
use Rattle.sha256.proofs.Lists.{eight_is}
use Rattle.hmac.proofs.midstates.key_block.Goals as goal

pub returns : goal.returns
returns g c l m =
    let key = c.args.key in
    let lane = g.W.Word.lane l in
    let at = lane_at lane key in
    let n : length key ≡ 8 = search rules in
    let whole = ap (λ x. map (λ y. bit_xor y c.args.pad) x ++ replicate 8 c.args.pad) (eight_is (map lane key) (length-map key lane ∙ n)) in
    cc (whole, c.splat-p.ensures l m, at 0 8 c.index-key-0.result n (lit< tt), at 1 8 c.index-key-1.result n (lit< tt), at 2 8 c.index-key-2.result n (lit< tt), at 3 8 c.index-key-3.result n (lit< tt), at 4 8 c.index-key-4.result n (lit< tt), at 5 8 c.index-key-5.result n (lit< tt), at 6 8 c.index-key-6.result n (lit< tt), at 7 8 c.index-key-7.result n (lit< tt), c.xor.ensures l m, c.xor-2.ensures l m, c.xor-3.ensures l m, c.xor-4.ensures l m, c.xor-5.ensures l m, c.xor-6.ensures l m, c.xor-7.ensures l m, c.xor-8.ensures l m)
