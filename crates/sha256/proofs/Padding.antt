-- The end of a message: its last whole block, its padding, and the one or two blocks that these make.
-- Assumes nothing.
use Rattle.std.proofs.Common.{◌≡◌, ℕ, ◌+◌, ◌-◌, ◌*◌, ◌/◌, ◌%◌, ◌^◌, ◌<◌, ◌≤◌, List, ◌∷◌, ◌++◌, length, take, drop, replicate, sym, refl, ap, ◌∙◌, arith}
use Rattle.std.proofs.lemmas.List.{append_assoc, length-append, length-take-le, length-drop, length-replicate, take_all, take_at, replicate-append-replicate, take-append-drop}
use Rattle.sha256.specs.Sha256.{words, compressed, absorbed, eight, padding}
use Rattle.sha256.specs.Blocks.{remaining, finished}
use Rattle.sha256.proofs.Absorbing.{absorbed_front, absorbed_back, eight_mod}

pub length_eight : (n : ℕ) → length (eight n) ≡ 8
unfolding eight
length_eight n = refl

-- the length in bits, as the code takes it
abbrev pub bits_of : ℕ → ℕ
bits_of n = n % 2 ^ 64 * 8 % 2 ^ 64

-- the rest of a message past its whole blocks, with the bit 1 and zeros up to a block
abbrev pub open_block : List ℕ → List ℕ
open_block r = r ++ 128 ∷ replicate (63 - length r) 0

open_length : (r : List ℕ) → length r < 64 → length (open_block r) ≡ 64
open_length r h = simp (length-append, length-replicate) (omega arith)

-- where the length fits the same block
tail_short : (r : List ℕ) (n : ℕ) → length r ≡ n % 64 → length r < 56 → r ++ padding n ≡ take 56 (open_block r) ++ eight (bits_of n)
unfolding padding
tail_short r n e h =
    let x : List ℕ = r ++ 128 ∷ replicate (55 - length r) 0 in
    let l : length x ≡ 56 = simp (length-append, length-replicate) (omega arith) in
    let k : 63 - length r ≡ 55 - length r + 8 = omega arith in
    let z : (119 - n % 64) % 64 ≡ 55 - length r = omega arith in
    let o : open_block r ≡ x ++ replicate 8 0 =
    rw (k, ← replicate-append-replicate {A = ℕ} (55 - length r) 8 0) (sym (append_assoc r (128 ∷ replicate (55 - length r) 0) (replicate 8 0))) in
    let t : take 56 (open_block r) ≡ x = rw o (take_at x (replicate 8 0) 56 l) in
    rw (t, z, eight_mod) (sym (append_assoc r (128 ∷ replicate (55 - length r) 0) (eight (8 * n))))

-- where it asks for one block more
tail_long : (r : List ℕ) (n : ℕ) → length r ≡ n % 64 → 56 ≤ length r → r ++ padding n ≡ open_block r ++ (replicate 56 0 ++ eight (bits_of n))
unfolding padding
tail_long r n e h =
    let z : (119 - n % 64) % 64 ≡ 63 - length r + 56 = omega arith in
    rw (z, ← replicate-append-replicate {A = ℕ} (63 - length r) 56 0, eight_mod)
    (ap (λ x. r ++ 128 ∷ x) (append_assoc (replicate (63 - length r) 0) (replicate 56 0) (eight (8 * n))) ∙ sym (append_assoc r (128 ∷ replicate (63 - length r) 0) (replicate 56 0 ++ eight (8 * n))))

pub absorbed_one : (block h : List ℕ) → length block ≡ 64 → absorbed 1 block h ≡ compressed h (words 16 block)
unfolding absorbed
absorbed_one block h n = ap (λ x. compressed h (words 16 x)) (take_all 64 block (omega arith))

-- the rest of a message past its whole blocks
abbrev pub rest_of : List ℕ → List ℕ
rest_of m = drop (length m / 64 * 64) m

rest_length : (m : List ℕ) → length (rest_of m) ≡ length m % 64
rest_length m = simp length-drop (omega arith)

-- the whole blocks first, then k more
finished_cut : (before : ℕ) (x y h : List ℕ) (q k : ℕ) → length x ≡ 64 * q → length (y ++ padding (before + length (x ++ y))) ≡ 64 * k → finished before (x ++ y) h ≡ absorbed k (y ++ padding (before + length (x ++ y))) (absorbed q (x ++ y) h)
unfolding finished remaining
finished_cut before x y h q k lx ly =
    let p : List ℕ = padding (before + length (x ++ y)) in
    let a : x ++ y ++ p ≡ x ++ (y ++ p) = append_assoc x y p in
    let n : length (x ++ y ++ p) / 64 ≡ k + q = rw (a, length-append x (y ++ p)) (omega arith) in
    let f : absorbed q (x ++ y) h ≡ absorbed q x h = absorbed_front q x y h (omega arith) in
    rw (n, a, f) (absorbed_back k q x (y ++ p) h lx)

finished_tail : (before : ℕ) (m h : List ℕ) (k : ℕ) → length (rest_of m ++ padding (before + length m)) ≡ 64 * k → finished before m h ≡ absorbed k (rest_of m ++ padding (before + length m)) (absorbed (length m / 64) m h)
finished_tail before m h k e =
    let q : ℕ = length m / 64 in
    let x : List ℕ = take (q * 64) m in
    let y : List ℕ = drop (q * 64) m in
    let lx : length x ≡ 64 * q = length-take-le (q * 64) m (omega arith) ∙ omega arith in
    let ly : length (y ++ padding (before + length (x ++ y))) ≡ 64 * k = rw (take-append-drop (q * 64) m) e in
    rw (take-append-drop (q * 64) m) at (finished_cut before x y h q k lx ly)

pub finish_short : (before : ℕ) (m h : List ℕ) → before % 64 ≡ 0 → length (rest_of m) < 56 → finished before m h ≡ compressed (absorbed (length m / 64) m h) (words 16 (take 56 (open_block (rest_of m)) ++ eight (bits_of (before + length m))))
finish_short before m h w l =
    let n : ℕ = before + length m in
    let b : List ℕ = take 56 (open_block (rest_of m)) ++ eight (bits_of n) in
    let same : length (rest_of m) ≡ n % 64 = omega (arith, rest_length m) in
    let t : rest_of m ++ padding n ≡ b = tail_short (rest_of m) n same l in
    let le : 56 ≤ length (open_block (rest_of m)) = omega (arith, open_length (rest_of m) (omega arith)) in
    let lb : length b ≡ 64 = simp (length-append, length-take-le, length_eight) refl in
    rw t at (finished_tail before m h 1 (ap length t ∙ lb)) ∙ absorbed_one b (absorbed (length m / 64) m h) lb

pub finish_long : (before : ℕ) (m h : List ℕ) → before % 64 ≡ 0 → 56 ≤ length (rest_of m) → finished before m h ≡ compressed (compressed (absorbed (length m / 64) m h) (words 16 (open_block (rest_of m)))) (words 16 (replicate 56 0 ++ eight (bits_of (before + length m))))
finish_long before m h w l =
    let n : ℕ = before + length m in
    let s : List ℕ = absorbed (length m / 64) m h in
    let a : List ℕ = open_block (rest_of m) in
    let b : List ℕ = replicate 56 0 ++ eight (bits_of n) in
    let same : length (rest_of m) ≡ n % 64 = omega (arith, rest_length m) in
    let t : rest_of m ++ padding n ≡ a ++ b = tail_long (rest_of m) n same l in
    let la : length a ≡ 64 = open_length (rest_of m) (omega arith) in
    let lb : length b ≡ 64 = length-append (replicate 56 0) (eight (bits_of n)) ∙ ap (λ k. 56 + k) (length_eight (bits_of n)) in
    let lt : length (a ++ b) ≡ 128 = length-append a b ∙ omega arith in
    let first : absorbed 1 a s ≡ compressed s (words 16 a) = absorbed_one a s la in
    let second : absorbed 1 b (absorbed 1 a s) ≡ compressed (absorbed 1 a s) (words 16 b) = absorbed_one b (absorbed 1 a s) lb in
    let two : absorbed 2 (a ++ b) s ≡ absorbed 1 b (absorbed 1 a s) = absorbed_back 1 1 a b s la in
    let f : finished before m h ≡ absorbed 2 (a ++ b) s = rw t at (finished_tail before m h 2 (ap length t ∙ lt)) in
    cc

-- ---- a message under 56 bytes after a key's block
pub short_block : (m : List ℕ) → length m < 56 → take 56 (open_block m) ++ eight ((64 + length m) * 8) ≡ remaining 64 m
unfolding remaining
short_block m h =
    let e : (64 + length m) * 8 ≡ bits_of (64 + length m) = omega arith in
    rw e (sym (tail_short m (64 + length m) (omega arith) h))

pub short_finished : (m h : List ℕ) → length m < 56 → finished 64 m h ≡ compressed h (words 16 (remaining 64 m))
unfolding finished
short_finished m h l =
    let le : 56 ≤ length (open_block m) = omega (arith, open_length m (omega arith)) in
    let n : length (remaining 64 m) ≡ 64 = rw (← short_block m l) (simp (length-append, length-take-le, length_eight) refl) in
    rw n (absorbed_one (remaining 64 m) h n)
