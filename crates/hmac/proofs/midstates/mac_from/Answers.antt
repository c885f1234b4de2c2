use Rattle.std.proofs.Common.{◌≡◌, ◌∷◌, [], ◌++◌, lit<, rules}
use Rattle.std.proofs.lemmas.List.{map-id}
use Rattle.hmac.specs.Midstates.{mac_from}
use Rattle.hmac.proofs.Keying.{outer_block_is}
use Rattle.hmac.proofs.midstates.mac_from.Goals as goal

pub returns : goal.returns
unfolding mac_from
returns c =
    let digest = c.finish-digest.result in
    let block : c.outer_block.result ≡ digest ++ 0x80000000 ∷ 0 ∷ 0 ∷ 0 ∷ 0 ∷ 0 ∷ 0 ∷ 768 ∷ [] = simp map-id at (c.outer_block.ensures 0 (lit< tt)) in
    let e = outer_block_is digest c.args.outer (search rules) (search rules) in
    cc
