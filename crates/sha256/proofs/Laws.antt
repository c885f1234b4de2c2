-- Laws of the digest and of the padding, for callers that cite the definitions without opening them.
-- Assumes nothing.
use Rattle.std.proofs.Common.{◌≡◌, ℕ, zero, suc, ◌*◌, ◌/◌, ◌%◌, ◌<◌, List, [], ◌∷◌, length, get_or, sym, refl, ap, ◌∙◌, arith}
use Rattle.std.proofs.lemmas.Simd.{length-zip2}
use Rattle.std.proofs.lemmas.List.{length-append, length-replicate}
use Rattle.sha256.specs.Constants.{initial}
use Rattle.sha256.specs.Sha256.{◌⊞◌, schedule, round, rounds, compressed, absorbed, padding, padded, bytes, sha256}
use Rattle.sha256.proofs.Bytes.{bytes_length}
use Rattle.sha256.proofs.Padding.{length_eight}

-- ---- the padded message is a whole number of blocks
pub padded_whole : (m : List ℕ) → length (padded m) % 64 ≡ 0
unfolding padded padding
padded_whole m = simp (length-append, length-replicate, length_eight) (omega arith)

-- ---- a hash value has eight words
rounds_length : (n : ℕ) (w v : List ℕ) → length v ≡ 8 → length (rounds n w v) ≡ 8
unfolding rounds round
rounds_length zero w v h = h
rounds_length (suc n) w v h = refl

pub compressed_length : (h block : List ℕ) → length h ≡ 8 → length (compressed h block) ≡ 8
unfolding compressed
compressed_length h block n =
    length-zip2 ◌⊞◌ h (rounds 64 (schedule 48 block) h) (n ∙ sym (rounds_length 64 (schedule 48 block) h n)) ∙ n

pub absorbed_length : (n : ℕ) (m h : List ℕ) → length h ≡ 8 → length (absorbed n m h) ≡ 8
unfolding absorbed
absorbed_length zero m h l = l
absorbed_length (suc n) m h l = compressed_length (absorbed n m h) _ (absorbed_length n m h l)

-- ---- a digest has 32 bytes
bytes_below : (v : List ℕ) (i : ℕ) → get_or (bytes v) i 0 < 256
unfolding bytes
bytes_below [] i = omega arith
bytes_below (x ∷ xs) zero = omega arith
bytes_below (x ∷ xs) (suc zero) = omega arith
bytes_below (x ∷ xs) (suc (suc zero)) = omega arith
bytes_below (x ∷ xs) (suc (suc (suc zero))) = omega arith
bytes_below (x ∷ xs) (suc (suc (suc (suc i)))) = bytes_below xs i

pub sha256_length : (m : List ℕ) → length (sha256 m) ≡ 32
unfolding sha256
sha256_length m =
    bytes_length (absorbed (length (padded m) / 64) (padded m) initial) ∙ ap (λ k. 4 * k) (absorbed_length (length (padded m) / 64) (padded m) initial refl)

pub sha256_bytes : (m : List ℕ) (i : ℕ) → get_or (sha256 m) i 0 < 256
unfolding sha256
sha256_bytes m i = bytes_below (absorbed (length (padded m) / 64) (padded m) initial) i
