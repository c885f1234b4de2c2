-- What is read of a wish, each way one lemma. Assumes nothing.
use Rattle.std.proofs.Common.{◌≡◌, ℕ, ◌<◌, Bool, true, false, List, ◌∷◌, ◌++◌, length, get_or, drop, Some, None, sym, refl, ap, ◌∙◌, arith, length-append}
use Rattle.std.specs.Bool.{then_some}
use Rattle.std.proofs.lemmas.List.{take_at, drop_at}
use Rattle.narrow.specs.Can.{same_bytes}
use Rattle.narrow.proofs.Can.{same_bytes_lem}
use Rattle.narrow.proofs.Rows.{when_true_is, when_true_some}
use Rattle.numbers.specs.Bytes.{two_bytes}
use Rattle.numbers.proofs.Bytes.{two_back}
use Rattle.parts.specs.Limits.{WishView}
use Rattle.wishes.specs.Format.{wish_bytes}
use Rattle.wishes.specs.Reading.{wish_guess, wish_of}

-- the guess at what was written is that
wish_guess_back : (w : WishView) (rest : List ℕ) → wish_guess (wish_bytes w ++ rest) ≡ w
wish_guess_back w rest = rw (two_back w.day, two_back w.minute, take_at w.name rest (length w.name) refl)

if_front : (bs : List ℕ) (w g : WishView) (left rest : List ℕ) → g ≡ w → left ≡ rest → bs ≡ wish_bytes w ++ rest →
    then_some {T = WishView × List ℕ} (same_bytes bs (wish_bytes g ++ left)) (g, left) ≡ Some (w, rest)
if_front bs w g left rest p q e =
    let whole : bs ≡ wish_bytes g ++ left = e ∙ (ap (λ (xs : List ℕ). wish_bytes w ++ xs) (sym q) ∙ ap (λ (v : WishView). wish_bytes v ++ left) (sym p)) in
    when_true_some (same_bytes bs (wish_bytes g ++ left)) (g, left) ((same_bytes_lem bs (wish_bytes g ++ left)).1 whole) ∙ (λ i. Some (p i, q i))

-- a wish is read from its bytes, whatever follows
pub wish_read_is : (w : WishView) (rest bs : List ℕ) → bs ≡ wish_bytes w ++ rest → wish_of bs ≡ Some (w, rest)
unfolding wish_of
wish_read_is w rest bs e =
    let left : drop (get_or bs 7 0) (drop 8 bs) ≡ rest = rw e (drop_at w.name rest (length w.name) refl) in
    if_front bs w (wish_guess bs) (drop (get_or bs 7 0) (drop 8 bs)) rest (ap wish_guess e ∙ wish_guess_back w rest) left e

-- what is read stands in front as just these bytes
pub wish_read_only : (bs : List ℕ) (w : WishView) (rest : List ℕ) → wish_of bs ≡ Some (w, rest) → bs ≡ wish_bytes w ++ rest
unfolding wish_of
wish_read_only bs w rest h =
    let left = drop (get_or bs 7 0) (drop 8 bs) in
    let r = when_true_is (same_bytes bs (wish_bytes (wish_guess bs) ++ left)) (wish_guess bs, left) (w, rest) h in
    let whole = (same_bytes_lem bs (wish_bytes (wish_guess bs) ++ left)).0 r.0 in
    let same : wish_guess bs ≡ w = ap (λ (p : WishView × List ℕ). p.0) r.1 in
    let after : left ≡ rest = ap (λ (p : WishView × List ℕ). p.1) r.1 in
    cc

pub wish_not_read : (bs : List ℕ) → ((w : WishView) (rest : List ℕ) → bs ≡ wish_bytes w ++ rest → ⊥) → wish_of bs ≡ None
unfolding wish_of
wish_not_read bs none = go (same_bytes bs (wish_bytes (wish_guess bs) ++ left)) refl
  where
    left : List ℕ
    left = drop (get_or bs 7 0) (drop 8 bs)

    go : (b : Bool) → same_bytes bs (wish_bytes (wish_guess bs) ++ left) ≡ b → then_some {T = WishView × List ℕ} b (wish_guess bs, left) ≡ None
    go true h = absurd (none (wish_guess bs) left ((same_bytes_lem bs (wish_bytes (wish_guess bs) ++ left)).0 h))
    go false h = refl

-- the ways in which there is no wish at the front, and the one in which there is
pub wish_too_short : (bs : List ℕ) → length bs < 8 → None ≡ wish_of bs
wish_too_short bs short =
    sym (wish_not_read bs (λ w rest e. omega (arith, ap length e)))

pub wish_other_kind : (bs : List ℕ) → (get_or bs 0 0 ≡ 21 → ⊥) → None ≡ wish_of bs
wish_other_kind bs other = sym (wish_not_read bs (λ w rest e. other (ap (λ (xs : List ℕ). get_or xs 0 0) e)))

pub wish_cut : (bs after : List ℕ) (kind m d n p count : ℕ) → bs ≡ kind ∷ m ∷ two_bytes d ++ (two_bytes n ++ (p ∷ count ∷ after)) → length after < count → None ≡ wish_of bs
wish_cut bs after kind m d n p count e short =
    sym (wish_not_read bs (λ w rest f.
    let long : count ≡ length w.name = cc in
    let left : after ≡ w.name ++ rest = cc in
    omega (arith, ap length left, length-append w.name rest)))

pub wish_whole : (bs after name rest : List ℕ) (kind m d n p count : ℕ) → bs ≡ kind ∷ m ∷ two_bytes d ++ (two_bytes n ++ (p ∷ count ∷ after)) → kind ≡ 21 →
    length name ≡ count → after ≡ name ++ rest → Some (record { museum = m; day = d; minute = n; persons = p; name = name }, rest) ≡ wish_of bs
wish_whole bs after name rest kind m d n p count e k long parts =
    sym (wish_read_is (record { museum = m; day = d; minute = n; persons = p; name = name }) rest bs (cc))
