use Rattle.std.proofs.Common.{◌≡◌, map, length, lit<, ◌∙◌, rules}
use Rattle.std.proofs.lemmas.List.{length-map}
use Rattle.sha256.specs.Sha256.{◌⊞◌}
use Rattle.sha256.proofs.Lanes.{lane_at}
use Rattle.sha256.proofs.Lists.{zip_eight}
use Rattle.sha256.proofs.compress.sum.Goals as goal

pub returns : goal.returns
returns g c l m =
    let lane = g.W.Word.lane l in
    let at = lane_at lane in
    let nh : length c.args.h ≡ 8 = search rules in
    let nv : length c.args.v ≡ 8 = search rules in
    let whole = zip_eight ◌⊞◌ (map lane c.args.h) (map lane c.args.v) (length-map c.args.h lane ∙ nh) (length-map c.args.v lane ∙ nv) in
    cc (whole, at c.args.h 0 8 c.index-h-0.result nh (lit< tt), at c.args.h 1 8 c.index-h-1.result nh (lit< tt), at c.args.h 2 8 c.index-h-2.result nh (lit< tt), at c.args.h 3 8 c.index-h-3.result nh (lit< tt), at c.args.h 4 8 c.index-h-4.result nh (lit< tt), at c.args.h 5 8 c.index-h-5.result nh (lit< tt), at c.args.h 6 8 c.index-h-6.result nh (lit< tt), at c.args.h 7 8 c.index-h-7.result nh (lit< tt), at c.args.v 0 8 c.index-v-0.result nv (lit< tt), at c.args.v 1 8 c.index-v-1.result nv (lit< tt), at c.args.v 2 8 c.index-v-2.result nv (lit< tt), at c.args.v 3 8 c.index-v-3.result nv (lit< tt), at c.args.v 4 8 c.index-v-4.result nv (lit< tt), at c.args.v 5 8 c.index-v-5.result nv (lit< tt), at c.args.v 6 8 c.index-v-6.result nv (lit< tt), at c.args.v 7 8 c.index-v-7.result nv (lit< tt), c.plus.ensures l m, c.plus-2.ensures l m, c.plus-3.ensures l m, c.plus-4.ensures l m, c.plus-5.ensures l m, c.plus-6.ensures l m, c.plus-7.ensures l m, c.plus-8.ensures l m)
