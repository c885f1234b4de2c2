-- What a write to the front of a slice leaves. Assumes nothing.
use Rattle.std.proofs.Common.{◌≡◌, ℕ, ◌+◌, ◌-◌, ◌<◌, List, [], ◌∷◌, ◌++◌, length, take, drop, set, arith}
use borrow.Rule.Slice.PartMut.{put_mid, Post-is}
use Rattle.std.proofs.lemmas.List.{drop-set-lt, take_more_set}

-- one byte, and then a row of bytes
pub put_behind : (out ys : List ℕ) (b : ℕ) → length ys < length out → put_mid 1 (1 + length ys - 1) (set out 0 b) ys ≡ (b ∷ ys) ++ drop (1 + length ys) out
put_behind out ys b h =
    let first : take 1 (set out 0 b) ≡ b ∷ [] = take_more_set out 0 b (omega arith) in
    let rest = Post-is 1 (1 + length ys) (set out 0 b) (omega arith) in
    let same = drop-set-lt (1 + length ys) out 0 b (omega arith) in
    cc
