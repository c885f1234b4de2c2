-- What a row of lines holds, by its invariant. Assumes nothing.
use Rattle.std.proofs.Common.{◌≡◌, ℕ, ◌+◌, ◌-◌, ◌<◌, ◌≤◌, List, [], length, get_or, take, drop, ap, ◌∙◌, arith, length-take}
use Rattle.std.proofs.lemmas.List.{take_all}
use Rattle.narrow.specs.Term.{Bytes}
use Rattle.rows.specs.declared.row.Lines.{Lines}
use Rattle.rows.specs.Row.{rows}
use Rattle.rows.specs.Wire.{wire}
use Rattle.rows.proofs.Wire.{length_unwired}
use Rattle.rows.proofs.Marks.{mark, mark_more, mark_within, line_part}

pub row_count : (r : Lines) → length (rows r) ≡ r.count
unfolding rows
row_count r = length_unwired r.count r.bytes

pub row_mark : (r : Lines) (i : ℕ) → i ≤ r.count → get_or r.marks i 0 ≡ mark (rows r) i
unfolding rows
row_mark r i h = r.marked i h

pub row_used : (r : Lines) → get_or r.marks r.count 0 ≡ length (wire (rows r))
row_used r =
    row_mark r r.count (omega arith) ∙ ap (λ (ls : List Bytes). length (wire ls)) (take_all r.count (rows r) (omega (arith, row_count r)))

pub row_wire : (r : Lines) → wire (rows r) ≡ take (length (wire (rows r))) r.bytes
unfolding rows
row_wire r = r.wired ∙ ap (λ (n : ℕ). take n r.bytes) (row_used r)

pub row_fits : (r : Lines) → length (wire (rows r)) ≤ length r.bytes
row_fits r = omega (arith, ap length (row_wire r), length-take (length (wire (rows r))) r.bytes)

-- line i stands between its marks
pub row_between : (r : Lines) (i : ℕ) → i < r.count → get_or r.marks i 0 + 1 ≤ get_or r.marks (i + 1) 0
row_between r i h = omega (arith, row_mark r i (omega arith), row_mark r (i + 1) (omega arith), mark_more (rows r) i (omega (arith, row_count r)))

pub row_end : (r : Lines) (i : ℕ) → i < r.count → get_or r.marks (i + 1) 0 ≤ length r.bytes
row_end r i h = omega (arith, row_mark r (i + 1) (omega arith), mark_within (rows r) (i + 1), row_fits r)

pub row_part : (r : Lines) (i : ℕ) → i < r.count →
    take (get_or r.marks (i + 1) 0 - (get_or r.marks i 0 + 1)) (drop (get_or r.marks i 0 + 1) r.bytes) ≡ get_or (rows r) i []
row_part r i h =
    rw (row_mark r i (omega arith), row_mark r (i + 1) (omega arith)) (line_part (rows r) r.bytes i (omega (arith, row_count r)) (row_wire r))
