-- The hash value over blocks: where a message may be cut, and its padding.
-- Assumes nothing.
use Rattle.std.proofs.Common.{inl, inr, ◌≡◌, ℕ, zero, suc, ◌+◌, ◌-◌, ◌*◌, ◌/◌, ◌%◌, ◌^◌, ◌<◌, ◌≤◌, List, [], ◌∷◌, ◌++◌, length, get_or, take, drop, set, replicate, sym, refl, ap, ◌∙◌, suc-add, zero-add, add-zero, add-one, mul-zero, mul-suc, add_comm, lit<, arith}
use borrow.Rule.Slice.PartMut.{put_mid}
use Rattle.std.specs.Int.{w32, w64, from_be_bytes, to_be_bytes}
use Rattle.std.proofs.lemmas.Bool.{cases_lt}
use Rattle.std.proofs.lemmas.Nat.{field_of, shr-shr}
use Rattle.std.proofs.lemmas.List.{length-append, length-take-le, length-drop, get_or_append_left, get_or-append_right, take-append-le, drop-append-le, drop_at, drop_all, drop-drop, get_or-take, get_or-drop, set_at, drop-replicate, take-append-drop, take_all}
use Rattle.std.specs.List.{fold}
use Rattle.std.specs.Simd.{first_chunks}
use Rattle.sha256.specs.Sha256.{word, words, compressed, absorbed, eight}

-- ---- words
pub words_length : (n : ℕ) (b : List ℕ) → length (words n b) ≡ n
unfolding words
words_length zero b = refl
words_length (suc n) b = simp length-append (omega (arith, words_length n b))

pub words_at : (n i : ℕ) (b : List ℕ) → i < n → get_or (words n b) i 0 ≡ word i b
unfolding words
words_at zero i b h = absurd (omega arith)
words_at (suc n) i b h =
    elim (cases_lt i n) as (λ _. get_or (words n b ++ word n b ∷ []) i 0 ≡ word i b) [
      | inl l ↦ get_or_append_left (words n b) (word n b ∷ []) 0 i (omega (arith, words_length n b)) ∙ words_at n i b l
      | inr k ↦
          let e : i ≡ n = omega arith in
          let z : n - n ≡ 0 = omega arith in
          rw (e, get_or-append_right (words n b) (word n b ∷ []) n n 0 (words_length n b) (omega arith), z)
    ]

-- a word depends on its four bytes alone
word_front : (i : ℕ) (x y : List ℕ) → 4 * i + 4 ≤ length x → word i (x ++ y) ≡ word i x
unfolding word
word_front i x y h =
    let a = get_or_append_left x y 0 (4 * i) (omega arith) in
    let b = get_or_append_left x y 0 (4 * i + 1) (omega arith) in
    let c = get_or_append_left x y 0 (4 * i + 2) (omega arith) in
    let d = get_or_append_left x y 0 (4 * i + 3) (omega arith) in
    cc

pub words_front : (n : ℕ) (x y : List ℕ) → 4 * n ≤ length x → words n (x ++ y) ≡ words n x
unfolding words
words_front zero x y h = refl
words_front (suc n) x y h =
    let a = words_front n x y (omega arith) in
    let b = word_front n x y (omega arith) in
    cc

-- a word from its four bytes
pub from_bytes : (x : ℕ) → (x / 2 ^ 24 % 256) * 2 ^ 24 + (x / 2 ^ 16 % 256) * 2 ^ 16 + (x / 2 ^ 8 % 256) * 2 ^ 8 + x % 256 ≡ x % 2 ^ 32
from_bytes x = omega (arith, shr-shr x 8 8, shr-shr x 16 8, shr-shr x 24 8)

-- a block with the length in bits in its last eight bytes, as the code writes it
pub sealed_is : (block x : List ℕ) (bits : ℕ) → length block ≡ 64 → x ≡ to_be_bytes w64 bits → put_mid 56 8 block x ≡ take 56 block ++ eight bits
unfolding eight
sealed_is block x bits n e =
    let z : drop 8 (drop 56 block) ≡ [] = drop_all 8 (drop 56 block) (simp length-drop (omega arith)) in
    rw (e, z) refl

-- ---- blocks
pub absorbed_more : (n : ℕ) (message h : List ℕ) → absorbed (n + 1) message h ≡ compressed (absorbed n message h) (words 16 (take 64 (drop (64 * n) message)))
unfolding absorbed
absorbed_more n message h = rw add-one

pub absorbed_front : (n : ℕ) (x y h : List ℕ) → 64 * n ≤ length x → absorbed n (x ++ y) h ≡ absorbed n x h
unfolding absorbed
absorbed_front zero x y h l = refl
absorbed_front (suc n) x y h l =
    let rest : 64 ≤ length (drop (64 * n) x) = simp length-drop (omega arith) in
    let a = absorbed_front n x y h (omega arith) in
    let d = drop-append-le (64 * n) x y (omega arith) in
    let t = take-append-le 64 (drop (64 * n) x) y rest in
    cc

-- the blocks of x ++ y, where x is j whole blocks
pub absorbed_back : (k j : ℕ) (x y h : List ℕ) → length x ≡ 64 * j → absorbed (k + j) (x ++ y) h ≡ absorbed k y (absorbed j x h)
unfolding absorbed
absorbed_back zero j x y h l = rw zero-add (absorbed_front j x y h (omega arith))
absorbed_back (suc k) j x y h l =
    let a = absorbed_back k j x y h l in
    let e : 64 * (k + j) ≡ 64 * j + 64 * k = omega arith in
    let d : drop (64 * (k + j)) (x ++ y) ≡ drop (64 * k) y =
    rw (e, ← drop-drop (64 * k) (64 * j) (x ++ y), drop_at x y (64 * j) l) refl in
    rw suc-add (cc)

-- block by block, as the code takes them
pub absorbed_chunks : (n : ℕ) (message h : List ℕ) → 64 * n ≤ length message → fold (λ h b. compressed h (words 16 b)) h (first_chunks 64 n message) ≡ absorbed n message h
unfolding absorbed
absorbed_chunks zero message h l = refl
absorbed_chunks (suc n) message h l =
    let x : List ℕ = take 64 message in
    let y : List ℕ = drop 64 message in
    let nx : length x ≡ 64 = length-take-le 64 message (omega arith) in
    let more = absorbed_chunks n y (compressed h (words 16 x)) (simp length-drop (omega arith)) in
    let back : absorbed (n + 1) (x ++ y) h ≡ absorbed n y (absorbed 1 x h) = absorbed_back n 1 x y h nx in
    let one : absorbed 1 x h ≡ compressed h (words 16 x) = ap (λ z. compressed h (words 16 z)) (take_all 64 x (omega arith)) in
    more ∙ sym (rw (add-one, take-append-drop, one) at back)

-- a chunk of a list that is cut by n
pub chunk_at : (n k i : ℕ) (b : List ℕ) (d : List ℕ) → i < k → get_or (first_chunks n k b) i d ≡ take n (drop (n * i) b)
chunk_at n zero i b d h = absurd (omega arith)
chunk_at n (suc k) zero b d h = rw (mul-zero n) refl
chunk_at n (suc k) (suc i) b d h =
    let e : n * suc i ≡ n + n * i = mul-suc n i ∙ add_comm (n * i) n in
    rw (e, ← drop-drop (n * i) n b) (chunk_at n k i (drop n b) d (omega arith))

-- a word from the chunk of its four bytes
pub word_chunk : (i k : ℕ) (b d : List ℕ) → i < k → from_be_bytes w32 (get_or (first_chunks 4 k b) i d) ≡ word i b
unfolding word
word_chunk i k b d h =
    let x : List ℕ = take 4 (drop (4 * i) b) in
    let at : (j : ℕ) → j < 4 → get_or x j 0 ≡ get_or b (4 * i + j) 0 = λ j l. get_or-take 4 (drop (4 * i) b) j 0 l ∙ get_or-drop (4 * i) b j 0 in
    let z : 4 * i + 0 ≡ 4 * i = add-zero (4 * i) in
    let a = rw z at (at 0 (lit< tt)) in
    let e : from_be_bytes w32 x ≡ word i b = cc (a, at 1 (lit< tt), at 2 (lit< tt), at 3 (lit< tt)) in
    rw (chunk_at 4 k i b d h) e

-- ---- the end of a message
pub opened_is : (rest x : List ℕ) → x ≡ rest → length rest < 64 → set (x ++ drop (length rest) (replicate 64 0)) (length rest) 128 ≡ rest ++ 128 ∷ replicate (63 - length rest) 0
opened_is rest x e l =
    let k : 64 - length rest ≡ suc (63 - length rest) = omega arith in
    rw (e, drop-replicate, k) (set_at rest 0 (replicate (63 - length rest) 0) 128 (length rest) refl)

-- the low byte of a number, of which only low bits are left
lows : (y : ℕ) → (y % 2 ^ 8 % 256 ≡ y % 256) × (y % 2 ^ 16 % 256 ≡ y % 256) × (y % 2 ^ 24 % 256 ≡ y % 256) × (y % 2 ^ 32 % 256 ≡ y % 256) × (y % 2 ^ 40 % 256 ≡ y % 256) × (y % 2 ^ 48 % 256 ≡ y % 256) × (y % 2 ^ 56 % 256 ≡ y % 256) × (y % 2 ^ 64 % 256 ≡ y % 256)
lows y = omega arith

eight_low : (x : ℕ) → eight (x % 2 ^ 64) ≡ eight x
unfolding eight
eight_low x =
    let b₀ : x % 2 ^ 64 / 2 ^ 56 % 256 ≡ x / 2 ^ 56 % 256 = ap (λ y. y % 256) (field_of x 8 56) ∙ (lows (x / 2 ^ 56)).0 in
    let b₁ : x % 2 ^ 64 / 2 ^ 48 % 256 ≡ x / 2 ^ 48 % 256 = ap (λ y. y % 256) (field_of x 16 48) ∙ (lows (x / 2 ^ 48)).1 in
    let b₂ : x % 2 ^ 64 / 2 ^ 40 % 256 ≡ x / 2 ^ 40 % 256 = ap (λ y. y % 256) (field_of x 24 40) ∙ (lows (x / 2 ^ 40)).2 in
    let b₃ : x % 2 ^ 64 / 2 ^ 32 % 256 ≡ x / 2 ^ 32 % 256 = ap (λ y. y % 256) (field_of x 32 32) ∙ (lows (x / 2 ^ 32)).3 in
    let b₄ : x % 2 ^ 64 / 2 ^ 24 % 256 ≡ x / 2 ^ 24 % 256 = ap (λ y. y % 256) (field_of x 40 24) ∙ (lows (x / 2 ^ 24)).4 in
    let b₅ : x % 2 ^ 64 / 2 ^ 16 % 256 ≡ x / 2 ^ 16 % 256 = ap (λ y. y % 256) (field_of x 48 16) ∙ (lows (x / 2 ^ 16)).5 in
    let b₆ : x % 2 ^ 64 / 2 ^ 8 % 256 ≡ x / 2 ^ 8 % 256 = ap (λ y. y % 256) (field_of x 56 8) ∙ (lows (x / 2 ^ 8)).6 in
    let b₇ : x % 2 ^ 64 % 256 ≡ x % 256 = (lows x).7 in
    cc

-- the length in bits, as the code takes it
pub eight_mod : (n : ℕ) → eight (n % 2 ^ 64 * 8 % 2 ^ 64) ≡ eight (8 * n)
eight_mod n =
    let e : n % 2 ^ 64 * 8 % 2 ^ 64 ≡ 8 * n % 2 ^ 64 = omega arith in
    rw e (eight_low (8 * n))
