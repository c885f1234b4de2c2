use Rattle.std.proofs.Common.{◌≡◌, ◌++◌, map, replicate, lit<}
use lib.Bits.{bit_xor}
use Rattle.std.proofs.lemmas.List.{map-id}
use Rattle.hmac.proofs.Keying.{key_midstate}
use Rattle.hmac.proofs.midstates.midstate.Goals as goal

pub returns : goal.returns
returns c x key_bytes l ep n small ek =
    let block : c.key_block.result ≡ map (λ x. bit_xor x c.args.pad) c.args.key ++ replicate 8 c.args.pad = simp map-id at (c.key_block.ensures 0 (lit< tt)) in
    rw (c.compress.ensures, block) (key_midstate x c.args.pad key_bytes c.args.key n small l ep ek)
