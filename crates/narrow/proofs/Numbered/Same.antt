-- What the tests of lines and tickets decide.
-- Assumes nothing.
use Rattle.std.proofs.Common.{◌≡◌, ℕ, true, eqb, List, [], ◌∷◌, ◌++◌, sym, refl, ap, ap₂, ⊎_elim}
use Rattle.std.proofs.lemmas.Bool.{and_parts, and_from, or_cases, or_left, or_right, eqb-true, eq-eqb, false≢true}
use Rattle.narrow.specs.Numbered.Term.{Line, Limit, Else}
use Rattle.narrow.specs.Numbered.Ticket.{Ticket, YesWord, same_line, same_lines, same_ticket, ends_with, made_of}

-- t is s, perhaps with lines added
abbrev pub Extends : Ticket → Ticket → Type 0
Extends t s = (s.number ≡ t.number) × ((more : List Line) × (t.lines ≡ more ++ s.lines))

-- y is z, perhaps with limits added
abbrev pub Narrows : YesWord → YesWord → Type 0
Narrows y z = (z.key ≡ y.key) × ((more : List ℕ) × (y.limits ≡ more ++ z.limits))

-- lines that the test takes for the same are
same_line_lem : (a e : Line) → same_line a e ≡ true → a ≡ e
same_line_lem (Limit a) (Limit e) h = ap Limit (eqb-true a e h)
same_line_lem (Limit a) (Else e) h = absurd (false≢true h)
same_line_lem (Else a) (Limit e) h = absurd (false≢true h)
same_line_lem (Else a) (Else e) h = ap Else (eqb-true a e h)

-- the test takes a line for itself
line_same : (a : Line) → same_line a a ≡ true
line_same (Limit a) = eq-eqb a a refl
line_same (Else a) = eq-eqb a a refl

-- rows of lines that the test takes for the same are
same_lines_lem : (xs ys : List Line) → same_lines xs ys ≡ true → xs ≡ ys
unfolding same_lines
same_lines_lem [] [] h = refl
same_lines_lem [] (y ∷ ys) h = absurd (false≢true h)
same_lines_lem (x ∷ xs) [] h = absurd (false≢true h)
same_lines_lem (x ∷ xs) (y ∷ ys) h = let (p, r) = and_parts (same_line x y) (same_lines xs ys) h in ap₂ ◌∷◌ (same_line_lem x y p) (same_lines_lem xs ys r)

-- the test takes a row of lines for itself
lines_same : (xs : List Line) → same_lines xs xs ≡ true
unfolding same_lines
lines_same [] = refl
lines_same (x ∷ xs) = and_from (same_line x x) (same_lines xs xs) (line_same x) (lines_same xs)

-- tickets that the test takes for the same are
pub same_ticket_lem : (a e : Ticket) → same_ticket a e ≡ true → a ≡ e
same_ticket_lem a e h =
    let (p, r) = and_parts (eqb a.number e.number) (same_lines a.lines e.lines) h in
    λ i. record { number = eqb-true a.number e.number p i; lines = same_lines_lem a.lines e.lines r i }

-- the test takes equal tickets for the same
pub ticket_same : (a e : Ticket) → a ≡ e → same_ticket a e ≡ true
ticket_same a e p = rw p (and_from _ _ (eq-eqb e.number e.number refl) (lines_same e.lines))

-- a row that for the test ends with ys does
ends : (xs ys : List Line) → ends_with xs ys ≡ true → (more : List Line) × (xs ≡ more ++ ys)
unfolding ends_with
ends [] ys h = ([], same_lines_lem [] ys h)
ends (x ∷ xs) ys h = ⊎_elim (λ e. ([], same_lines_lem (x ∷ xs) ys e)) (λ e. let (more, p) = ends xs ys e in (x ∷ more, ap (λ r. x ∷ r) p)) (or_cases (same_lines (x ∷ xs) ys) (ends_with xs ys) h)

-- a row with others before it ends with it for the test
ends_test : (more ys : List Line) → ends_with (more ++ ys) ys ≡ true
unfolding ends_with
ends_test [] [] = lines_same []
ends_test [] (y ∷ ys) = or_left (same_lines (y ∷ ys) (y ∷ ys)) (ends_with ys (y ∷ ys)) (lines_same (y ∷ ys))
ends_test (x ∷ more) ys = or_right (same_lines (x ∷ (more ++ ys)) ys) (ends_with (more ++ ys) ys) (ends_test more ys)

-- a ticket that for the test is made of t extends it
pub made_extends : (a t : Ticket) → made_of a t ≡ true → Extends a t
made_extends a t h = let (p, r) = and_parts (eqb a.number t.number) (ends_with a.lines t.lines) h in (sym (eqb-true a.number t.number p), ends a.lines t.lines r)

-- a ticket that extends t is made of it for the test
pub extends_made : (a t : Ticket) → Extends a t → made_of a t ≡ true
extends_made a t (n, (more, e)) = and_from _ _ (eq-eqb a.number t.number (sym n)) (rw e (ends_test more t.lines))
