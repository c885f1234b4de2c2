use Rattle.std.proofs.Common.{◌≡◌, [], ◌++◌, map, replicate, ap, ◌∙◌, refl, rules}
use lib.Bits.{bit_xor}
use Rattle.sha256.specs.Constants.{initial}
use Rattle.sha256.specs.Sha256.{compressed}
use Rattle.sha256.proofs.FromFn.{map_gives}
use Rattle.hmac4.specs.Lanes.{lane}
use Rattle.hmac4.proofs.Arrays.{splat_lane}
use Rattle.hmac4.proofs.Macs.{mac_lane}
use Rattle.hmac4.proofs.lanes.macs.Goals as goal

pub returns : goal.returns
returns c l key m k is short em =
    let kw = lane l c.args.keys in
    let inner = lane l c.compress_lanes-inner.result in
    let outer = lane l c.compress_lanes-outer.result in
    let digest = lane l c.compress_lanes-digest.result in
    let made = map_gives _ (λ x. replicate 4 x) initial c.map-start.result _ 8 0 [] refl (λ x y q call. search rules) c.map-start.ensures.items in
    let start : lane l c.map-start.result ≡ initial = ap (lane l) made ∙ splat_lane l k initial in
    let ei : inner ≡ compressed initial (map (λ x. bit_xor x 0x36363636) kw ++ replicate 8 0x36363636) =
    c.compress_lanes-inner.ensures l k ∙ rw (start, c.key_block.ensures l k) refl in
    let eo : outer ≡ compressed initial (map (λ x. bit_xor x 0x5c5c5c5c) kw ++ replicate 8 0x5c5c5c5c) =
    c.compress_lanes-outer.ensures l k ∙ rw (start, c.key_block-2.ensures l k) refl in
    mac_lane key m kw (lane l c.args.blocks) inner outer digest (lane l c.compress_lanes.result) is short em ei eo
    (c.compress_lanes-digest.ensures l k)
    (c.compress_lanes.ensures l k ∙ ap (compressed outer) (c.outer_block.ensures l k))
