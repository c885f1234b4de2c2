-- One lane of four MACs: four compressions make the MAC of a short message.
-- Assumes nothing.
use Rattle.std.proofs.Common.{◌≡◌, ℕ, zero, suc, ◌^◌, ◌<◌, List, [], ◌∷◌, ◌++◌, map, length, get_or, replicate, sym, refl, ap, ◌∙◌, lit<, arith}
use lib.Bits.{bit_xor}
use lib.Lanes.{zip2}
use Rattle.sha256.specs.Blocks.{remaining, finished}
use Rattle.sha256.specs.Constants.{initial}
use Rattle.hmac.specs.Hmac.{hmac_of}
use Rattle.hmac.specs.Midstates.{midstate, mac_from, Midstates}
use Rattle.sha256.specs.Sha256.{◌⊞◌, words, schedule, rounds, compressed, bytes}
use Rattle.hmac4.specs.Lanes.{IsKeyOf}
use Rattle.hmac.proofs.Keying.{key_midstate, outer_block_is, mac_is}
use Rattle.sha256.proofs.Laws.{compressed_length}
use Rattle.sha256.proofs.Padding.{short_finished}

-- each word of a hash value is below 2 ^ 32
sums_below : (xs ys : List ℕ) (i : ℕ) → get_or (zip2 ◌⊞◌ xs ys) i 0 < 2 ^ 32
sums_below [] ys i = omega arith
sums_below (x ∷ xs) [] i = omega arith
sums_below (x ∷ xs) (y ∷ ys) zero = omega arith
sums_below (x ∷ xs) (y ∷ ys) (suc i) = sums_below xs ys i

compressed_below : (h block : List ℕ) (i : ℕ) → get_or (compressed h block) i 0 < 2 ^ 32
unfolding compressed
compressed_below h block i = sums_below h (rounds 64 (schedule 48 block) h) i

pub mac_lane : (key m kw block inner outer digest r : List ℕ) → IsKeyOf key kw → length m < 56 → block ≡ words 16 (remaining 64 m) →
    inner ≡ compressed initial (map (λ x. bit_xor x 0x36363636) kw ++ replicate 8 0x36363636) → outer ≡ compressed initial (map (λ x. bit_xor x 0x5c5c5c5c) kw ++ replicate 8 0x5c5c5c5c) →
    digest ≡ compressed inner block → r ≡ compressed outer (digest ++ 0x80000000 ∷ 0 ∷ 0 ∷ 0 ∷ 0 ∷ 0 ∷ 0 ∷ 768 ∷ []) →
    bytes r ≡ hmac_of key m
unfolding mac_from
mac_lane key m kw block inner outer digest r is short eb ei eo ed e =
    let i : inner ≡ midstate 0x36 key = ei ∙ key_midstate 0x36 0x36363636 key kw is.long is.below (lit< tt) refl is.words_are in
    let o : outer ≡ midstate 0x5c key = eo ∙ key_midstate 0x5c 0x5c5c5c5c key kw is.long is.below (lit< tt) refl is.words_are in
    let li : length inner ≡ 8 = ap length ei ∙ compressed_length initial (map (λ x. bit_xor x 0x36363636) kw ++ replicate 8 0x36363636) refl in
    let ld : length digest ≡ 8 = ap length ed ∙ compressed_length inner block li in
    let f : digest ≡ finished 64 m inner = ed ∙ ap (compressed inner) eb ∙ sym (short_finished m inner short) in
    let below : (j : ℕ) → get_or digest j 0 < 2 ^ 32 = λ j. rw ed (compressed_below inner block j) in
    let w : finished 64 (bytes digest) outer ≡ r = outer_block_is digest outer ld below ∙ sym e in
    let k : Midstates key inner outer = record { long = is.long; inner_is = i; outer_is = o } in
    ap bytes (sym w ∙ ap (λ x. finished 64 (bytes x) outer) f) ∙ mac_is key inner outer m k
