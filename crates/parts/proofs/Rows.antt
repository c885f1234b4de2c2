-- Rows of bytes, by how many they are and element by element. Assumes nothing.
use Rattle.std.proofs.Common.{◌≡◌, ℕ, zero, suc, true, leb, List, length, sym, refl, ◌∙◌, arith}
use Rattle.std.specs.List.{list_all}
use Rattle.std.proofs.lemmas.Bool.{and_parts, le-leb}
use Rattle.narrow.proofs.Rows.{all_list}
use Rattle.parts.specs.Limits.{within, enough, is_short}

enough_is : (least n : ℕ) → leb least n ≡ enough least n
enough_is zero n = le-leb 0 n (omega arith)
enough_is (suc least) n = refl

-- whether bytes can be, where there are as many as there may be
pub short_is : (least most low high : ℕ) (bs : List ℕ) → within least most (length bs) ≡ true → list_all (within low high) bs ≡ is_short least most low high bs
short_is least most low high bs few =
    let both = and_parts (leb least (length bs)) (leb (length bs) most) few in
    let below : enough least (length bs) ≡ true = sym (enough_is least (length bs)) ∙ both.0 in
    let above : leb (length bs) most ≡ true = both.1 in
    rw (below, above) (sym (all_list (within low high) bs))
