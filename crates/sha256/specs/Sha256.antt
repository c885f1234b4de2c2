-- SHA-256 (FIPS 180-4, RFC 6234) over lists of numbers: bytes below 256 and words below 2 ^ 32.
-- Assumes nothing.
use Rattle.std.specs.Prelude.{ℕ, zero, suc, ◌+◌, ◌-◌, ◌*◌, ◌/◌, ◌%◌, ◌^◌, List, [], ◌∷◌, ◌++◌, length, take, drop, replicate, bit_and, bit_or, bit_xor, slice_index, slice_index_or}
use Rattle.std.specs.Simd.Lanes.{zip2}
use Rattle.sha256.specs.Constants.{constants, initial}

infixl 65 ◌⊞◌
-- ---- operations on words, and the six functions (sections 3.2 and 4.1.2)
-- addition modulo 2 ^ 32
abbrev pub ◌⊞◌ : ℕ → ℕ → ℕ
x ⊞ y = (x + y) % 2 ^ 32

-- the bits turned
abbrev pub complement : ℕ → ℕ
complement x = 2 ^ 32 - 1 - x

-- the rotation to the right by n bits, 0 < n < 32
abbrev pub rotr : ℕ → ℕ → ℕ
rotr n x = bit_or (x / 2 ^ n) ((x * 2 ^ (32 - n)) % 2 ^ 32)

-- the shift to the right by n bits
abbrev pub shr : ℕ → ℕ → ℕ
shr n x = x / 2 ^ n

-- bit by bit, y where x is set, else z
abbrev pub Ch : ℕ → ℕ → ℕ → ℕ
Ch x y z = bit_xor (bit_and x y) (bit_and (complement x) z)

-- bit by bit, what most of the three have
abbrev pub Maj : ℕ → ℕ → ℕ → ℕ
Maj x y z = bit_xor (bit_xor (bit_and x y) (bit_and x z)) (bit_and y z)

-- the four functions of one word
abbrev pub Σ₀ : ℕ → ℕ
Σ₀ x = bit_xor (bit_xor (rotr 2 x) (rotr 13 x)) (rotr 22 x)

abbrev pub Σ₁ : ℕ → ℕ
Σ₁ x = bit_xor (bit_xor (rotr 6 x) (rotr 11 x)) (rotr 25 x)

abbrev pub σ₀ : ℕ → ℕ
σ₀ x = bit_xor (bit_xor (rotr 7 x) (rotr 18 x)) (shr 3 x)

abbrev pub σ₁ : ℕ → ℕ
σ₁ x = bit_xor (bit_xor (rotr 17 x) (rotr 19 x)) (shr 10 x)

-- ---- the compression of one block, as sixteen words, into the hash value h (section 6.2.2)
-- one more word of the message schedule, at index t
unfoldable pub extended : ℕ → List ℕ → List ℕ
extended t w = w ++ (σ₁ (slice_index w (t - 2)) ⊞ slice_index_or w (t - 7) 0 ⊞ σ₀ (slice_index w (t - 15)) ⊞ slice_index_or w (t - 16) 0) ∷ []

-- the message schedule of a block, as far as n words past the block's own
unfoldable pub schedule : ℕ → List ℕ → List ℕ
schedule zero block = block
schedule (suc n) block = extended (n + 16) (schedule n block)

-- one round, by a constant k and a word w, over the working variables a to h
unfoldable pub round : ℕ → ℕ → List ℕ → List ℕ
round k w v =
    let a : ℕ = slice_index_or v 0 0 in
    let b : ℕ = slice_index_or v 1 0 in
    let c : ℕ = slice_index_or v 2 0 in
    let d : ℕ = slice_index_or v 3 0 in
    let e : ℕ = slice_index_or v 4 0 in
    let f : ℕ = slice_index_or v 5 0 in
    let g : ℕ = slice_index_or v 6 0 in
    let h : ℕ = slice_index_or v 7 0 in
    let t₁ : ℕ = h ⊞ Σ₁ e ⊞ Ch e f g ⊞ k ⊞ w in
    let t₂ : ℕ = Σ₀ a ⊞ Maj a b c in
    (t₁ ⊞ t₂) ∷ a ∷ b ∷ c ∷ (d ⊞ t₁) ∷ e ∷ f ∷ g ∷ []

-- the first n rounds, by the message schedule w
unfoldable pub rounds : ℕ → List ℕ → List ℕ → List ℕ
rounds zero w v = v
rounds (suc n) w v = round (slice_index constants n) (slice_index w n) (rounds n w v)

-- the hash value after one block
unfoldable pub compressed : List ℕ → List ℕ → List ℕ
compressed h block = zip2 ◌⊞◌ h (rounds 64 (schedule 48 block) h)

-- ---- the hash of a message of whole blocks (sections 5.2.1 and 6.2)
-- the word at index n of a list of bytes, the high byte first
unfoldable pub word : ℕ → List ℕ → ℕ
word n b = slice_index b (4 * n) * 2 ^ 24 + slice_index b (4 * n + 1) * 2 ^ 16 + slice_index b (4 * n + 2) * 2 ^ 8 + slice_index b (4 * n + 3)

-- the first n words
unfoldable pub words : ℕ → List ℕ → List ℕ
words zero b = []
words (suc n) b = words n b ++ word n b ∷ []

-- the hash value h after the first n blocks of a message
unfoldable pub absorbed : ℕ → List ℕ → List ℕ → List ℕ
absorbed zero message h = h
absorbed (suc n) message h = compressed (absorbed n message h) (words 16 (take 64 (drop (64 * n) message)))

-- ---- padding (section 5.1.1) and the digest
-- a number in eight bytes, the high byte first; it is taken modulo 2 ^ 64
unfoldable pub eight : ℕ → List ℕ
eight n =
    (n / 2 ^ 56 % 256) ∷ (n / 2 ^ 48 % 256) ∷ (n / 2 ^ 40 % 256) ∷ (n / 2 ^ 32 % 256) ∷
    (n / 2 ^ 24 % 256) ∷ (n / 2 ^ 16 % 256) ∷ (n / 2 ^ 8 % 256) ∷ (n % 256) ∷ []

-- what follows a message of n bytes: the bit 1, as few zeros as fill the last block, and the message's length in bits
unfoldable pub padding : ℕ → List ℕ
padding n = 128 ∷ replicate ((119 - n % 64) % 64) 0 ++ eight (8 * n)

-- the message with its padding
unfoldable pub padded : List ℕ → List ℕ
padded message = message ++ padding (length message)

-- the bytes of a list of words
unfoldable pub bytes : List ℕ → List ℕ
bytes [] = []
bytes (x ∷ xs) = (x / 2 ^ 24 % 256) ∷ (x / 2 ^ 16 % 256) ∷ (x / 2 ^ 8 % 256) ∷ (x % 256) ∷ bytes xs

-- the digest of a message
unfoldable pub sha256 : List ℕ → List ℕ
sha256 message = bytes (absorbed (length (padded message) / 64) (padded message) initial)
