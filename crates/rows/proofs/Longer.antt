-- A row of lines that was made longer by one, as its parts are after that. Assumes nothing.
use Rattle.std.proofs.Common.{◌≡◌, ℕ, ◌+◌, ◌<◌, ◌≤◌, true, List, [], ◌∷◌, ◌++◌, length, get_or, take, set, sym, ap, ◌∙◌, ⊎_elim, append_assoc, arith}
use mathlib.Core.List.Memᴰ
use borrow.Rule.Slice.PartMut.{put_mid, post_of}
use Rattle.std.proofs.lemmas.List.{get_or-set_same}
use Rattle.narrow.specs.Rows.{all}
use Rattle.narrow.specs.Term.{Bytes}
use Rattle.narrow.proofs.Rows.{all_at, all_from}
use Rattle.rows.specs.declared.row.Lines.{Lines}
use Rattle.rows.specs.Standing.{stands}
use Rattle.lines.specs.declared.Place.{Place}
use Rattle.rows.specs.Row.{rows}
use Rattle.rows.specs.Wire.{wire, unwired}
use Rattle.rows.proofs.Held.{row_count, row_mark, row_used}
use Rattle.rows.proofs.Pushed.{pushed_rows, pushed_wired, pushed_marked}

-- the parts of a row that has the lines ls and then l
pub record Longer (place : Place) (ls : List Bytes) (l : Bytes) (bytes : Bytes) (marks : List ℕ) (count : ℕ) : Type 0 where
  pub are : unwired count bytes ≡ ls ++ l ∷ []
  pub wired : wire (unwired count bytes) ≡ take (get_or marks count 0) bytes
  pub marked : (i : ℕ) → i ≤ count → get_or marks i 0 ≡ length (wire (take i (unwired count bytes)))
  pub legible : all (stands place) (unwired count bytes) ≡ true

pub all_push : (place : Place) (ls : List Bytes) (l : Bytes) → all (stands place) ls ≡ true → stands place l ≡ true → all (stands place) (ls ++ l ∷ []) ≡ true
all_push place ls l h e =
    all_from (stands place) (ls ++ l ∷ [])
    (λ x m. ⊎_elim (λ i. all_at (stands place) i h) (λ i. ap (stands place) (Memᴰ.eq_of_singleton i) ∙ e) (Memᴰ.append_cases ls m))

module _ (r : Lines) (l : Bytes) (room : r.count + 1 < length r.marks) (good : stands r.place l ≡ true) where
  -- a line that was written behind its length into the free end, of k bytes, which was lent for it
  pub longer : (used k size : ℕ) (out d : Bytes) → used ≡ get_or r.marks r.count 0 → out ≡ (length l ∷ l) ++ d → size ≡ 1 + length l →
      Longer r.place (rows r) l (put_mid used k r.bytes out) (set r.marks (r.count + 1) (used + size)) (r.count + 1)
  unfolding rows
  longer used k size out d is e one =
      let m = used + size in
      let post = post_of used k r.bytes in
      let bs = put_mid used k r.bytes out in
      let whole : bs ≡ wire (rows r) ++ ((length l ∷ l) ++ (d ++ post)) =
      ap (λ (b : Bytes). b ++ (out ++ post)) (ap (λ (n : ℕ). take n r.bytes) is ∙ sym r.wired) ∙
      (ap (λ (b : Bytes). wire (rows r) ++ (b ++ post)) e ∙ ap (λ (b : Bytes). wire (rows r) ++ b) (append_assoc (length l ∷ l) d post)) in
      let mark : m ≡ length (wire (rows r)) + 1 + length l = omega (arith, is, row_used r, one) in
      let are = pushed_rows (rows r) l (d ++ post) bs r.count (row_count r) whole in
      record {
        are = are;
        wired = pushed_wired (rows r) l (d ++ post) bs r.count (row_count r) whole ∙ ap (λ (n : ℕ). take n bs) (sym (get_or-set_same r.marks (r.count + 1) m 0 room ∙ mark));
        marked =
            λ i h.
            ap (λ (n : ℕ). get_or (set r.marks (r.count + 1) n) i 0) mark ∙
            pushed_marked (rows r) l (d ++ post) bs r.count (row_count r) whole r.marks (row_mark r) room i h;
        legible = ap (all (stands r.place)) are ∙ all_push r.place (rows r) l r.legible good;
      }
