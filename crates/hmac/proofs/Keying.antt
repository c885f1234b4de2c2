-- HMAC's blocks as words: the key's two blocks, and the block of the outer hash.
-- Assumes nothing.
use Rattle.std.proofs.Common.{◌≡◌, ℕ, ◌+◌, ◌*◌, ◌/◌, ◌^◌, ◌<◌, List, [], ◌∷◌, ◌++◌, map, length, get_or, replicate, sym, refl, ap, ◌∙◌, arith}
use lib.Bits.{bit_xor, xor_block}
use Rattle.std.proofs.lemmas.List.{append_assoc, length-append, length-map, map-append, get_or-map}
use Rattle.sha256.specs.Constants.{initial}
use Rattle.sha256.specs.Sha256.{word, words, compressed, absorbed, eight, padding, padded, bytes, sha256}
use Rattle.hmac.specs.Hmac.{mixed, hmac_of}
use Rattle.sha256.specs.Blocks.{remaining, finished}
use Rattle.hmac.specs.Midstates.{midstate, mac_from, Midstates}
use Rattle.sha256.proofs.Lists.{eight_is}
use Rattle.sha256.proofs.Absorbing.{absorbed_back}
use Rattle.sha256.proofs.Bytes.{words_back, words_bytes, bytes_length}
use Rattle.sha256.proofs.Padding.{absorbed_one}

-- ---- the key's block
-- four bytes, each xor x
xor_four : (a b c d x : ℕ) → a < 256 → b < 256 → c < 256 → d < 256 → x < 256 → bit_xor (a * 2 ^ 24 + b * 2 ^ 16 + c * 2 ^ 8 + d) (x * 0x01010101) ≡ bit_xor a x * 2 ^ 24 + bit_xor b x * 2 ^ 16 + bit_xor c x * 2 ^ 8 + bit_xor d x
xor_four a b c d x la lb lc ld lx =
    let l : a * 2 ^ 24 + b * 2 ^ 16 + c * 2 ^ 8 + d ≡ (((a * 2 ^ 8 + b) * 2 ^ 8 + c) * 2 ^ 8 + d) = omega arith in
    let r : x * 0x01010101 ≡ (((x * 2 ^ 8 + x) * 2 ^ 8 + x) * 2 ^ 8 + x) = omega arith in
    rw (l, r, xor_block 8 ((a * 2 ^ 8 + b) * 2 ^ 8 + c) ((x * 2 ^ 8 + x) * 2 ^ 8 + x) d x ld lx, xor_block 8 (a * 2 ^ 8 + b) (x * 2 ^ 8 + x) c x lc lx, xor_block 8 a x b x lb lx)
    (omega arith)

word_mixed : (i : ℕ) (key : List ℕ) (c : ℕ) → length key ≡ 32 → ((j : ℕ) → get_or key j 0 < 256) → c < 256 → i < 8 → word i (map (λ b. bit_xor b c) key) ≡ bit_xor (word i key) (c * 0x01010101)
unfolding word
word_mixed i key c n small l h =
    let f : ℕ → ℕ = λ b. bit_xor b c in
    let a = get_or-map f key (4 * i) 0 0 (omega arith) in
    let b = get_or-map f key (4 * i + 1) 0 0 (omega arith) in
    let d = get_or-map f key (4 * i + 2) 0 0 (omega arith) in
    let e = get_or-map f key (4 * i + 3) 0 0 (omega arith) in
    let x = xor_four (get_or key (4 * i) 0) (get_or key (4 * i + 1) 0) (get_or key (4 * i + 2) 0) (get_or key (4 * i + 3) 0) c (small (4 * i)) (small (4 * i + 1)) (small (4 * i + 2)) (small (4 * i + 3)) l in
    rw (a, b, d, e) (sym x)

mixed_is : (c : ℕ) (key : List ℕ) → length key ≡ 32 → mixed c key ≡ map (λ b. bit_xor b c) key ++ replicate 32 c
unfolding mixed
mixed_is c key n = rw n (map-append (λ b. bit_xor b c) key (replicate 32 0))

pub mixed_length : (c : ℕ) (key : List ℕ) → length key ≡ 32 → length (mixed c key) ≡ 64
mixed_length c key n = rw (mixed_is c key n) (simp (length-append, length-map) (omega arith))

pad_words : (c : ℕ) → words 8 (replicate 32 c) ≡ replicate 8 (c * 0x01010101)
unfolding words word
pad_words c =
    let e : c * 2 ^ 24 + c * 2 ^ 16 + c * 2 ^ 8 + c ≡ c * 0x01010101 = omega arith in
    ap (λ z. replicate 8 z) e

-- by the words of a key, and the byte c four times over
pub key_words : (c : ℕ) (key : List ℕ) → length key ≡ 32 → ((j : ℕ) → get_or key j 0 < 256) → c < 256 → map (λ x. bit_xor x (c * 0x01010101)) (words 8 key) ++ replicate 8 (c * 0x01010101) ≡ words 16 (mixed c key)
unfolding words
key_words c key n small l =
    let x : List ℕ = map (λ b. bit_xor b c) key in
    let lx : length x ≡ 32 = rw length-map n in
    let w₀ = word_mixed 0 key c n small l (omega arith) in
    let w₁ = word_mixed 1 key c n small l (omega arith) in
    let w₂ = word_mixed 2 key c n small l (omega arith) in
    let w₃ = word_mixed 3 key c n small l (omega arith) in
    let w₄ = word_mixed 4 key c n small l (omega arith) in
    let w₅ = word_mixed 5 key c n small l (omega arith) in
    let w₆ = word_mixed 6 key c n small l (omega arith) in
    let w₇ = word_mixed 7 key c n small l (omega arith) in
    let e : map (λ x. bit_xor x (c * 0x01010101)) (words 8 key) ≡ words 8 x = cc in
    rw (mixed_is c key n, words_back 8 8 x (replicate 32 c) lx, pad_words c) (ap (λ z. z ++ replicate 8 (c * 0x01010101)) e)

pub key_midstate : (c pad : ℕ) (key kw : List ℕ) → length key ≡ 32 → ((j : ℕ) → get_or key j 0 < 256) → c < 256 → pad ≡ c * 0x01010101 → kw ≡ words 8 key → compressed initial (map (λ x. bit_xor x pad) kw ++ replicate 8 pad) ≡ midstate c key
unfolding midstate
key_midstate c pad key kw n small l ep ek = rw (ep, ek, key_words c key n small l)

-- ---- the outer hash
-- the padding after a key's block and 32 bytes
padding_96 : length (padding 96) ≡ 32
unfolding padding eight
padding_96 = refl

words_96 : words 8 (padding 96) ≡ 0x80000000 ∷ 0 ∷ 0 ∷ 0 ∷ 0 ∷ 0 ∷ 0 ∷ 768 ∷ []
unfolding words word padding eight
words_96 = refl

pub outer_block_is : (v h : List ℕ) → length v ≡ 8 → ((i : ℕ) → get_or v i 0 < 2 ^ 32) → finished 64 (bytes v) h ≡ compressed h (v ++ 0x80000000 ∷ 0 ∷ 0 ∷ 0 ∷ 0 ∷ 0 ∷ 0 ∷ 768 ∷ [])
unfolding finished remaining
outer_block_is v h n small =
    let lb : length (bytes v) ≡ 32 = rw (bytes_length, n) refl in
    let ll : length (bytes v ++ padding 96) ≡ 64 = rw length-append (rw lb (ap (λ k. 32 + k) padding_96)) in
    let w : words 16 (bytes v ++ padding 96) ≡ words 8 (bytes v) ++ words 8 (padding 96) = words_back 8 8 (bytes v) (padding 96) lb in
    let b : words 8 (bytes v) ≡ v = words_bytes v n small ∙ eight_is v n in
    rw (lb, ll) (rw (absorbed_one (bytes v ++ padding 96) h ll, w, b, words_96) refl)

-- ---- HMAC by its midstates
-- a hash from its start is one with the first block in the hash value already
sha256_from : (x m : List ℕ) → length x ≡ 64 → sha256 (x ++ m) ≡ bytes (finished 64 m (compressed initial (words 16 x)))
unfolding sha256 padded finished remaining
sha256_from x m n =
    let p : List ℕ = padding (64 + length m) in
    let l : length (x ++ m) ≡ 64 + length m = length-append x m ∙ ap (λ k. k + length m) n in
    let a : x ++ m ++ p ≡ x ++ (m ++ p) = append_assoc x m p in
    let k : length (x ++ (m ++ p)) / 64 ≡ length (m ++ p) / 64 + 1 = rw (length-append x (m ++ p)) (omega arith) in
    let b : absorbed (length (m ++ p) / 64 + 1) (x ++ (m ++ p)) initial ≡ absorbed (length (m ++ p) / 64) (m ++ p) (absorbed 1 x initial) = absorbed_back (length (m ++ p) / 64) 1 x (m ++ p) initial n in
    ap bytes (rw (l, a, k, b, absorbed_one x initial n) refl)

pub mac_is : (key inner outer message : List ℕ) → Midstates key inner outer → mac_from inner outer message ≡ hmac_of key message
unfolding hmac_of mac_from midstate
mac_is key inner outer message k =
    let i = sha256_from (mixed 0x36 key) message (mixed_length 0x36 key k.long) in
    let o = sha256_from (mixed 0x5c key) (bytes (finished 64 message inner)) (mixed_length 0x5c key k.long) in
    let a = k.inner_is in
    let b = k.outer_is in
    cc
