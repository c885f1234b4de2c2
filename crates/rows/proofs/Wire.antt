-- What is carried tells the lines. Assumes nothing.
use Rattle.std.proofs.Common.{◌≡◌, ℕ, zero, suc, List, [], ◌∷◌, ◌++◌, length, take, drop, sym, refl, ap, ◌∙◌, append_assoc, append-nil}
use mathlib.Core.List.{cons-eq-cons, cons≢nil}
use Rattle.std.proofs.lemmas.List.{take_at, drop_at}
use Rattle.narrow.specs.Term.{Bytes}
use Rattle.rows.specs.Wire.{wire, unwired}

pub wire_append : (ls ms : List Bytes) → wire (ls ++ ms) ≡ wire ls ++ wire ms
unfolding wire
wire_append [] ms = refl
wire_append (l ∷ ls) ms = ap (λ (bs : Bytes). length l ∷ l ++ bs) (wire_append ls ms) ∙ ap (λ (bs : Bytes). length l ∷ bs) (sym (append_assoc l (wire ls) (wire ms)))

-- a row is read off what is carried, whatever follows
pub unwired_wire : (ls : List Bytes) (rest : Bytes) → unwired (length ls) (wire ls ++ rest) ≡ ls
unfolding wire unwired
unwired_wire [] rest = refl
unwired_wire (l ∷ ls) rest =
    let parts : (l ++ wire ls) ++ rest ≡ l ++ (wire ls ++ rest) = append_assoc l (wire ls) rest in
    let front : take (length l) (l ++ (wire ls ++ rest)) ≡ l = take_at l (wire ls ++ rest) (length l) refl in
    let back : drop (length l) (l ++ (wire ls ++ rest)) ≡ wire ls ++ rest = drop_at l (wire ls ++ rest) (length l) refl in
    let below = unwired_wire ls rest in
    rw (parts, front, back, below)

-- two lists that begin with as many elements, and are one, have one beginning and one rest
pub append_split : {A : Type 0} (a b x y : List A) → length a ≡ length b → a ++ x ≡ b ++ y → (a ≡ b) × (x ≡ y)
append_split a b x y n e = (
  sym (take_at a x (length a) refl) ∙ (ap (take (length a)) e ∙ take_at b y (length a) (sym n)),
  sym (drop_at a x (length a) refl) ∙ (ap (drop (length a)) e ∙ drop_at b y (length a) (sym n)),
)

-- a row whose bytes begin with those of another begins with the other
pub wire_begins : (ls ms : List Bytes) (rest : Bytes) → wire ls ≡ wire ms ++ rest → (more : List Bytes) × (ls ≡ ms ++ more) × (wire more ≡ rest)
unfolding wire
wire_begins ls [] rest e = (ls, refl, e)
wire_begins [] (m ∷ ms) rest e = absurd (cons≢nil (sym e))
wire_begins (l ∷ ls) (m ∷ ms) rest e =
    let (size, tail) = cons-eq-cons.0 e in
    let (same, back) = append_split l m (wire ls) (wire ms ++ rest) size (tail ∙ append_assoc m (wire ms) rest) in
    let (more, longer, left) = wire_begins ls ms rest back in
    (more, cons-eq-cons.1 (same, longer), left)

-- two rows with the same bytes are one
pub wire_same : (ls ms : List Bytes) → wire ls ≡ wire ms → ls ≡ ms
unfolding wire
wire_same ls ms e =
    let (more, longer, none) = wire_begins ls ms [] (e ∙ sym (append-nil (wire ms))) in
    longer ∙ (ap (λ (r : List Bytes). ms ++ r) (nothing more none) ∙ append-nil ms)
  where
    nothing : (more : List Bytes) → wire more ≡ [] → more ≡ []
    nothing [] q = refl
    nothing (m ∷ more) q = absurd (cons≢nil q)

pub length_unwired : (n : ℕ) (bs : Bytes) → length (unwired n bs) ≡ n
unfolding unwired
length_unwired zero bs = refl
length_unwired (suc n) [] = ap suc (length_unwired n [])
length_unwired (suc n) (k ∷ bs) = ap suc (length_unwired n (drop k bs))
