-- Words cut from lists of bytes, and the bytes of words.
-- Assumes nothing.
use Rattle.std.proofs.Common.{◌≡◌, ℕ, zero, suc, ◌+◌, ◌-◌, ◌*◌, ◌/◌, ◌%◌, ◌^◌, ◌<◌, List, [], ◌∷◌, ◌++◌, length, get_or, sym, refl, ap, ◌∙◌, add-zero, suc-add, zero-add, arith}
use Rattle.std.proofs.lemmas.List.{append-nil, append_assoc, get_or-append_right}
use Rattle.std.specs.List.{flat_map}
use Rattle.sha256.specs.Sha256.{word, words, bytes}
use Rattle.sha256.proofs.Lists.{eight_of, eight_is}
use Rattle.sha256.proofs.Absorbing.{words_front, from_bytes}

-- ---- words
word_back : (i n : ℕ) (x y : List ℕ) → length x ≡ 4 * n → word (i + n) (x ++ y) ≡ word i y
unfolding word
word_back i n x y h =
    let at : (j : ℕ) → get_or (x ++ y) (4 * (i + n) + j) 0 ≡ get_or y (4 * (i + n) + j - 4 * n) 0 =
    λ j. get_or-append_right x y (4 * n) (4 * (i + n) + j) 0 h (omega arith) in
    let e : (j : ℕ) → 4 * (i + n) + j - 4 * n ≡ 4 * i + j = λ j. omega arith in
    let z : 4 * (i + n) + 0 ≡ 4 * (i + n) = add-zero (4 * (i + n)) in
    let z' : 4 * i + 0 ≡ 4 * i = add-zero (4 * i) in
    let a = rw (e 0, z, z') at (at 0) in
    let b = rw (e 1) at (at 1) in
    let c = rw (e 2) at (at 2) in
    let d = rw (e 3) at (at 3) in
    cc

-- the words of x ++ y, where x is n whole words
pub words_back : (k n : ℕ) (x y : List ℕ) → length x ≡ 4 * n → words (k + n) (x ++ y) ≡ words n x ++ words k y
unfolding words
words_back zero n x y h = rw (zero-add, append-nil) (words_front n x y (omega arith))
words_back (suc k) n x y h =
    let a = words_back k n x y h in
    let b = word_back k n x y h in
    rw (suc-add, a, b) (append_assoc (words n x) (words k y) (word k y ∷ []))

-- ---- bytes of words
pub words_bytes : (v : List ℕ) → length v ≡ 8 → ((i : ℕ) → get_or v i 0 < 2 ^ 32) → words 8 (bytes v) ≡ eight_of v
unfolding words word bytes
words_bytes v n small =
    let g : (i : ℕ) → (get_or v i 0 / 2 ^ 24 % 256) * 2 ^ 24 + (get_or v i 0 / 2 ^ 16 % 256) * 2 ^ 16 + (get_or v i 0 / 2 ^ 8 % 256) * 2 ^ 8 + get_or v i 0 % 256 ≡ get_or v i 0 =
    λ i. from_bytes (get_or v i 0) ∙ omega (arith, small i) in
    let g₀ = g 0 in
    let g₁ = g 1 in
    let g₂ = g 2 in
    let g₃ = g 3 in
    let g₄ = g 4 in
    let g₅ = g 5 in
    let g₆ = g 6 in
    let g₇ = g 7 in
    let e : words 8 (bytes (eight_of v)) ≡ eight_of v = cc in
    ap (λ z. words 8 (bytes z)) (sym (eight_is v n)) ∙ e

pub bytes_length : (v : List ℕ) → length (bytes v) ≡ 4 * length v
unfolding bytes
bytes_length [] = refl
bytes_length (x ∷ xs) = omega (arith, bytes_length xs)

pub bytes_push : (xs : List ℕ) (x : ℕ) → bytes (xs ++ x ∷ []) ≡ bytes xs ++ bytes (x ∷ [])
unfolding bytes
bytes_push [] x = refl
bytes_push (y ∷ xs) x = ap (λ z. (y / 2 ^ 24 % 256) ∷ (y / 2 ^ 16 % 256) ∷ (y / 2 ^ 8 % 256) ∷ (y % 256) ∷ z) (bytes_push xs x)

-- the bytes of each word, one after the other
pub bytes_flat : (ys : List (List ℕ)) (v : List ℕ) → length ys ≡ length v → ((i : ℕ) → i < length v → get_or ys i [] ≡ bytes (get_or v i 0 ∷ [])) → flat_map (λ x. x) ys ≡ bytes v
unfolding bytes
bytes_flat [] [] n each = refl
bytes_flat [] (x ∷ v) n each = cc
bytes_flat (y ∷ ys) [] n each = cc
bytes_flat (y ∷ ys) (x ∷ v) n each =
    let more = bytes_flat ys v (omega arith) (λ i h. each (suc i) (omega arith)) in
    rw (each 0 (omega arith), more) refl
