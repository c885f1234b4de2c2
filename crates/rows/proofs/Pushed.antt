-- A row with one line more: its invariant holds again. Assumes nothing.
use Rattle.std.proofs.Common.{◌≡◌, ℕ, ◌+◌, ◌<◌, ◌≤◌, ◌≢◌, List, [], ◌∷◌, ◌++◌, length, get_or, take, set, sym, ap, ◌∙◌, ⊎_elim, append_assoc, arith, length-append}
use Rattle.std.proofs.lemmas.List.{take_at, take_all, take-append-le, get_or-set_same, get_or-set_other, length_push}
use Rattle.std.proofs.lemmas.Bool.{cases_lt}
use Rattle.narrow.specs.Term.{Bytes}
use Rattle.rows.specs.Wire.{wire, unwired}
use Rattle.rows.proofs.Wire.{wire_append, unwired_wire}
use Rattle.rows.proofs.Marks.{wire_one}

module _ (ls : List Bytes) (l : Bytes) (rest : Bytes) where
  -- what is carried of the longer row
  pub pushed_wire : wire (ls ++ l ∷ []) ≡ wire ls ++ (length l ∷ l)
  pushed_wire = wire_append ls (l ∷ []) ∙ ap (λ (b : Bytes). wire ls ++ b) (wire_one l)

  pub pushed_size : length (wire (ls ++ l ∷ [])) ≡ length (wire ls) + 1 + length l
  pushed_size = omega (arith, ap length pushed_wire, length-append (wire ls) (length l ∷ l))

  module _ (bs : Bytes) (n : ℕ) (many : length ls ≡ n) (e : bs ≡ wire ls ++ ((length l ∷ l) ++ rest)) where
    whole : bs ≡ wire (ls ++ l ∷ []) ++ rest
    whole = e ∙ (sym (append_assoc (wire ls) (length l ∷ l) rest) ∙ ap (λ (b : Bytes). b ++ rest) (sym pushed_wire))

    -- the lines that are read off it
    pub pushed_rows : unwired (n + 1) bs ≡ ls ++ l ∷ []
    pushed_rows =
        ap (unwired (n + 1)) whole ∙
        (ap (λ (k : ℕ). unwired k (wire (ls ++ l ∷ []) ++ rest)) (ap (λ (k : ℕ). k + 1) (sym many) ∙ sym (length_push ls l)) ∙ unwired_wire (ls ++ l ∷ []) rest)

    pub pushed_wired : wire (unwired (n + 1) bs) ≡ take (length (wire ls) + 1 + length l) bs
    pushed_wired =
        ap wire pushed_rows ∙
        (sym (take_at (wire (ls ++ l ∷ [])) rest (length (wire ls) + 1 + length l) pushed_size) ∙ ap (take (length (wire ls) + 1 + length l)) (sym whole))

    module _ (marks : List ℕ) (marked : (i : ℕ) → i ≤ n → get_or marks i 0 ≡ length (wire (take i ls))) (room : n + 1 < length marks) where
      pub pushed_marked : (i : ℕ) → i ≤ n + 1 → get_or (set marks (n + 1) (length (wire ls) + 1 + length l)) i 0 ≡ length (wire (take i (unwired (n + 1) bs)))
      pushed_marked i h = ⊎_elim before last (cases_lt i (n + 1))
        where
          rows_at : length (wire (take i (ls ++ l ∷ []))) ≡ length (wire (take i (unwired (n + 1) bs)))
          rows_at = ap (λ (r : List Bytes). length (wire (take i r))) (sym pushed_rows)

          before : i < n + 1 → get_or (set marks (n + 1) (length (wire ls) + 1 + length l)) i 0 ≡ length (wire (take i (unwired (n + 1) bs)))
          before b =
              let other : i ≢ n + 1 = omega arith in
              get_or-set_other marks (n + 1) i (length (wire ls) + 1 + length l) 0 other ∙
              (marked i (omega arith) ∙ (ap (λ (r : List Bytes). length (wire r)) (sym (take-append-le i ls (l ∷ []) (omega (arith, many)))) ∙ rows_at))

          last : n + 1 ≤ i → get_or (set marks (n + 1) (length (wire ls) + 1 + length l)) i 0 ≡ length (wire (take i (unwired (n + 1) bs)))
          last b =
              let here : i ≡ n + 1 = omega arith in
              ap (λ (k : ℕ). get_or (set marks (n + 1) (length (wire ls) + 1 + length l)) k 0) here ∙
              (get_or-set_same marks (n + 1) (length (wire ls) + 1 + length l) 0 room ∙
              (sym pushed_size ∙
              (ap (λ (r : List Bytes). length (wire r)) (sym (take_all i (ls ++ l ∷ []) (omega (arith, many, length_push ls l)))) ∙ rows_at)))
