-- What each lane of a vector or of an array of words holds, place by place.
-- Assumes nothing.
use Rattle.std.proofs.Common.{◌≡◌, ℕ, ◌<◌, List, map, length, get_or, replicate, sym, ap, ◌∙◌, arith}
use lib.Lanes.{zip2}
use Rattle.std.proofs.lemmas.Simd.{get_or-zip2}
use Rattle.std.proofs.lemmas.List.{get_or-map, get_or-replicate, length-replicate}

-- a word of an array, in a lane
pub lane_at : {A : Type 0} (lane : A → ℕ) (xs : List A) (i n : ℕ) (d : A) → length xs ≡ n → i < n → lane (get_or xs i d) ≡ get_or (map lane xs) i 0
lane_at lane xs i n d e h = sym (get_or-map lane xs i d 0 (omega arith))

-- a lane of an operation on two vectors
pub zip_at : (op : ℕ → ℕ → ℕ) (v w : List ℕ) (n l : ℕ) → length v ≡ n → length w ≡ n → l < n → get_or (zip2 op v w) l 0 ≡ op (get_or v l 0) (get_or w l 0)
zip_at op v w n l ev ew h = get_or-zip2 op v w l 0 0 0 (omega arith) (omega arith)

-- the same, where one vector has the same number in each lane
pub zip_splat_at : (op : ℕ → ℕ → ℕ) (v : List ℕ) (n k l : ℕ) → length v ≡ n → l < n → get_or (zip2 op v (replicate n k)) l 0 ≡ op (get_or v l 0) k
zip_splat_at op v n k l e h = zip_at op v (replicate n k) n l e (length-replicate n k) h ∙ ap (op (get_or v l 0)) (get_or-replicate n l k 0 h)
