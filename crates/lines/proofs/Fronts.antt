-- What is written of a line. Assumes nothing.
use Rattle.std.proofs.Common.{◌≡◌, ℕ, suc, ◌+◌, ◌-◌, ◌≤◌, List, [], ◌∷◌, ◌++◌, length, drop, set, refl, sym, ap, append_assoc, arith}
use Rattle.std.proofs.lemmas.List.{drop-drop, take_at, drop_at}
use borrow.Rule.Slice.PartMut.{put_mid}

-- a kind, and then two parts
pub line_written : (kind : ℕ) (xs ys out : List ℕ) → 1 + length xs + length ys ≤ length out →
    put_mid (1 + length xs) (1 + length xs + length ys - (1 + length xs)) (put_mid 1 (1 + length xs - 1) (set out 0 kind) xs) ys
    ≡ kind ∷ (xs ++ ys ++ drop (1 + length xs + length ys) out)
line_written kind xs ys [] room = absurd (omega arith)
line_written kind xs ys (a ∷ rest) room =
    let past : 1 + length xs ≡ suc (length xs) = omega arith in
    let back : suc (length xs) - 1 ≡ length xs = omega arith in
    let long : suc (length xs) + length ys - suc (length xs) ≡ length ys = omega arith in
    let whole : suc (length xs) + length ys ≡ suc (length xs + length ys) = omega arith in
    let front = take_at xs (drop (length xs) rest) (length xs) refl in
    let behind = drop_at xs (drop (length xs) rest) (length xs) refl in
    let after = drop-drop (length ys) (length xs) rest in
    rw (past, back, long, whole, front, behind, after) (ap (λ (l : List ℕ). kind ∷ l) (sym (append_assoc xs ys (drop (length xs + length ys) rest))))
