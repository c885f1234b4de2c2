-- A term's root and lines, and whence one has a term.
-- Assumes nothing.
use Rattle.std.proofs.Common.{◌≡◌, ℕ, List, [], ◌∷◌, ◌++◌, refl, ap, ⊎_elim, append-nil}
use Rattle.narrow.specs.Numbered.Term.{Line, Term, Root, Yes, Sum, Tie, Gets, has, sum, tie, sums}
use Rattle.narrow.specs.Numbered.Ticket.{Ticket, YesWord, Shown, Given, ticket_sum, yes_sum, limit_lines, terms_of, ticket_terms, yes_terms, tied_terms, key_terms}
use Rattle.narrow.proofs.RowKinds.{◌∈◌, join_in, in_either, in_one}
use Rattle.narrow.proofs.Numbered.Kinds.{ticket_terms_join, yes_terms_join, key_terms_join, ties_of_join, tied_terms_join}

-- what is under all sums of a term
abbrev pub root_of : Term → Term
root_of (Root n) = Root n
root_of (Yes k) = Yes k
root_of (Sum t l) = root_of t
root_of (Tie a e) = Tie a e

-- the lines of the sums of a term, the latest first
abbrev pub lines_of : Term → List Line
lines_of (Root n) = []
lines_of (Yes k) = []
lines_of (Sum t l) = l ∷ lines_of t
lines_of (Tie a e) = []

-- sums over t have its root
pub root_sums : (t : Term) (ls : List Line) → root_of (sums t ls) ≡ root_of t
unfolding sums
root_sums t [] = refl
root_sums t (l ∷ ls) = root_sums t ls

-- sums over t have their lines and those of t
pub lines_sums : (t : Term) (ls : List Line) → lines_of (sums t ls) ≡ ls ++ lines_of t
unfolding sums
lines_sums t [] = refl
lines_sums t (l ∷ ls) = ap (λ r. l ∷ r) (lines_sums t ls)

-- whence one has a term with these lines over this root: of a given ticket or yes by adding lines, of a key, of what was tied, or of both parts of a tie
pub data Had (g : Given) (ls : List Line) : Term → Type 0 where
  of_ticket : {n : ℕ} (s : Ticket) → s ∈ g.tickets → s.number ≡ n → (more : List Line) → ls ≡ more ++ s.lines → Had g ls (Root n)
  of_yes : {k : ℕ} (y : YesWord) → y ∈ g.yeses → y.key ≡ k → (more : List Line) → ls ≡ more ++ limit_lines y.limits → Had g ls (Yes k)
  of_key : {k : ℕ} → k ∈ g.keys → Had g ls (Yes k)
  of_tied : {a e : Term} (w : Shown) (y : YesWord) → w ∈ g.tied → y ∈ w.yeses → a ≡ ticket_sum w.ticket → e ≡ yes_sum y → Had g ls (Tie a e)
  of_parts : {a e : Term} → Gets (terms_of g) a → Gets (terms_of g) e → Had g ls (Tie a e)

-- whence one has it with a line more
had_more : {g : Given} {ls : List Line} {r : Term} (l : Line) → Had g ls r → Had g (l ∷ ls) r
had_more l (of_ticket s m n more e) = of_ticket s m n (l ∷ more) (ap (λ r. l ∷ r) e)
had_more l (of_yes y m k more e) = of_yes y m k (l ∷ more) (ap (λ r. l ∷ r) e)
had_more l (of_key m) = of_key m
had_more l (of_tied w y m n p r) = of_tied w y m n p r
had_more l (of_parts x y) = of_parts x y

-- whence one has what was given
had_given : (g : Given) (s : Term) → s ∈ terms_of g → Had g (lines_of s) (root_of s)
had_given g s m = ⊎_elim ticket (λ n. ⊎_elim yes' (λ o. ⊎_elim tied key (in_either (tied_terms g.tied) o)) (in_either (yes_terms g.yeses) n)) (in_either (ticket_terms g.tickets) m)
  where
    ticket : s ∈ ticket_terms g.tickets → Had g (lines_of s) (root_of s)
    ticket m = let (t, n, o) = join_in ticket_terms_join g.tickets m in rw (in_one o, root_sums, lines_sums, append-nil) (of_ticket t n refl [] refl)

    yes' : s ∈ yes_terms g.yeses → Had g (lines_of s) (root_of s)
    yes' m = let (y, n, o) = join_in yes_terms_join g.yeses m in rw (in_one o, root_sums, lines_sums, append-nil) (of_yes y n refl [] refl)

    tied : s ∈ tied_terms g.tied → Had g (lines_of s) (root_of s)
    tied m =
        let (w, n, o) = join_in tied_terms_join g.tied m in
        let (y, p, r) = join_in (ties_of_join w.ticket) w.yeses o in
        rw (in_one r) (of_tied w y n p refl refl)

    key : s ∈ key_terms g.keys → Had g (lines_of s) (root_of s)
    key m = let (k, n, o) = join_in key_terms_join g.keys m in rw (in_one o) (of_key n)

-- whence one has any term
pub had : (g : Given) {t : Term} → Gets (terms_of g) t → Had g (lines_of t) (root_of t)
had g {t} (has m) = had_given g t m
had g (sum l d) = had_more l (had g d)
had g (tie x y) = of_parts x y
