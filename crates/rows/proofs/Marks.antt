-- Where the lines of a row begin and end in what is carried. Assumes nothing.
use Rattle.std.proofs.Common.{◌≡◌, ℕ, ◌+◌, ◌-◌, ◌<◌, ◌≤◌, List, [], ◌∷◌, ◌++◌, length, get_or, take, drop, sym, refl, ap, ◌∙◌, append_assoc, append-nil, arith, length-append, take-append-drop}
use Rattle.std.proofs.lemmas.List.{take_at, drop_at, take_more}
use Rattle.narrow.specs.Term.{Bytes}
use Rattle.rows.specs.Wire.{wire}
use Rattle.rows.proofs.Wire.{wire_append}

-- where line i begins, with its length
abbrev pub mark : List Bytes → ℕ → ℕ
mark ls i = length (wire (take i ls))

pub wire_one : (l : Bytes) → wire (l ∷ []) ≡ length l ∷ l
unfolding wire
wire_one l = ap (λ (b : Bytes). length l ∷ b) (append-nil l)

-- a row up to a line and with it
wire_more : (ls : List Bytes) (i : ℕ) → i < length ls → wire (take (i + 1) ls) ≡ wire (take i ls) ++ (length (get_or ls i []) ∷ get_or ls i [])
wire_more ls i h =
    ap wire (take_more ls i [] h) ∙ (wire_append (take i ls) (get_or ls i [] ∷ []) ∙ ap (λ (b : Bytes). wire (take i ls) ++ b) (wire_one (get_or ls i [])))

-- where it ends
pub mark_more : (ls : List Bytes) (i : ℕ) → i < length ls → mark ls (i + 1) ≡ mark ls i + 1 + length (get_or ls i [])
mark_more ls i h =
    omega (arith, ap length (wire_more ls i h), length-append (wire (take i ls)) (length (get_or ls i []) ∷ get_or ls i []))

-- what stands from its first byte on begins with the line
line_from : (ls : List Bytes) (rest : Bytes) (i : ℕ) → i < length ls →
    drop (mark ls i + 1) (wire ls ++ rest) ≡ get_or ls i [] ++ (wire (drop (i + 1) ls) ++ rest)
line_from ls rest i h =
    let l = get_or ls i [] in
    let more = wire (drop (i + 1) ls) in
    let front = wire (take i ls) in
    let whole : wire ls ≡ (front ++ (length l ∷ l)) ++ more =
    ap wire (sym (take-append-drop (i + 1) ls)) ∙ (wire_append (take (i + 1) ls) (drop (i + 1) ls) ∙ ap (λ (b : Bytes). b ++ more) (wire_more ls i h)) in
    let regroup : ((front ++ (length l ∷ l)) ++ more) ++ rest ≡ (front ++ length l ∷ []) ++ (l ++ (more ++ rest)) = simp append_assoc in
    ap (λ (b : Bytes). drop (mark ls i + 1) (b ++ rest)) whole ∙
    (ap (drop (mark ls i + 1)) regroup ∙
    drop_at (front ++ length l ∷ []) (l ++ (more ++ rest)) (mark ls i + 1) (length-append front (length l ∷ [])))

-- the part between the marks is the line
pub line_part : (ls : List Bytes) (bs : Bytes) (i : ℕ) → i < length ls → wire ls ≡ take (length (wire ls)) bs →
    take (mark ls (i + 1) - (mark ls i + 1)) (drop (mark ls i + 1) bs) ≡ get_or ls i []
line_part ls bs i h e =
    let l = get_or ls i [] in
    let rest = drop (length (wire ls)) bs in
    let size : mark ls (i + 1) - (mark ls i + 1) ≡ length l = omega (arith, mark_more ls i h) in
    let whole : bs ≡ wire ls ++ rest = sym (take-append-drop (length (wire ls)) bs) ∙ ap (λ (b : Bytes). b ++ rest) (sym e) in
    ap (λ (n : ℕ). take n (drop (mark ls i + 1) bs)) size ∙
    (ap (λ (b : Bytes). take (length l) (drop (mark ls i + 1) b)) whole ∙
    (ap (take (length l)) (line_from ls rest i h) ∙ take_at l (wire (drop (i + 1) ls) ++ rest) (length l) refl))

-- a mark lies within what is carried
pub mark_within : (ls : List Bytes) (i : ℕ) → mark ls i ≤ length (wire ls)
mark_within ls i =
    omega (arith, length-append (wire (take i ls)) (wire (drop i ls)), ap length (sym (wire_append (take i ls) (drop i ls)) ∙ ap wire (take-append-drop i ls)))
