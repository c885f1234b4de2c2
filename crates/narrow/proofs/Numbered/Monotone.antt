-- Whoever was given more, or the same with lines left off, can do no less.
-- Assumes nothing.
use Rattle.std.proofs.Common.{◌≡◌, ℕ, true, List, [], ◌∷◌, ◌++◌, sym, refl, ap, ◌∙◌, subst, ⊎_elim, append_assoc}
use Rattle.narrow.specs.Numbered.Ticket.{Holds, Ticket, YesWord, Shown, Given, can}
use Rattle.narrow.specs.Numbered.Promise.{Narrower, LineLess, MoreGiven}
use Rattle.narrow.proofs.RowKinds.{◌∈◌, here, there, in_cons, in_right, all_in, in_all}
use Rattle.narrow.proofs.Numbered.Kinds.{may_yes, lines_hold_all}
use Rattle.narrow.proofs.Numbered.Same.{Extends, Narrows}
use Rattle.narrow.proofs.Numbered.Can.{May, by_key, by_yes, by_tied, serves_less, may, met_by, can_is, is_can}

-- each of xs has one of ys to which it is related
abbrev Covers : {A : Type 0} → (A → A → Type 0) → List A → List A → Type 0
Covers {A} R xs ys = (x : A) → x ∈ xs → (y : A) × (y ∈ ys) × R x y

module _ {A : Type 0} (R : A → A → Type 0) (self : (x : A) → R x x) where
  -- a row is covered by itself with others before it
  covers_more : (zs xs : List A) → Covers R xs (zs ++ xs)
  covers_more zs xs x m = (x, in_right zs m, self x)

  -- a row is covered by one whose first only is another, to which its first is related
  covers_first : (x y : A) (xs : List A) → R x y → Covers R (x ∷ xs) (y ∷ xs)
  covers_first x y xs r a m = ⊎_elim (λ e. (y, here refl, subst (λ b. R b y) (sym e) r)) (λ n. (a, there n, self a)) (in_cons m)

-- all of g is in e, tickets and yeses perhaps with their latest lines left off
record Covered (g e : Given) : Type 0 where
  ticket : Covers Extends g.tickets e.tickets
  word : Covers Narrows g.yeses e.yeses
  shown : (w : Shown) → w ∈ g.tied → w ∈ e.tied
  key : (k : ℕ) → k ∈ g.keys → k ∈ e.keys

-- a ticket extends itself
extends_self : (t : Ticket) → Extends t t
extends_self t = (refl, ([], refl))

-- a yes narrows itself
narrows_self : (y : YesWord) → Narrows y y
narrows_self y = (refl, ([], refl))

-- what extends an extension of r extends r
extends_on : (t s r : Ticket) → Extends t s → Extends s r → Extends t r
extends_on t s r (n, (more, e)) (m, (most, f)) = (m ∙ n, (more ++ most, e ∙ (ap (λ ls. more ++ ls) f ∙ sym (append_assoc more most r.lines))))

module _ (h : Holds) (q : ℕ) (g e : Given) (c : Covered g e) where
  -- where g is covered by e, whatever yes one may have by g one may have by e
  may_covered : (t : Ticket) (k : ℕ) → May h q g t k → May h q e t k
  may_covered t k (by_key m) = by_key (c.key k m)
  may_covered t k (by_yes y m s) = let (z, n, x) = c.word y m in by_yes z n (serves_less h q k y z x s)
  may_covered t k (by_tied w y m same n s) = by_tied w y (c.shown w m) same n s

  -- where g is covered by e, whatever one can by g one can by e
  can_covered : can h q g ≡ true → can h q e ≡ true
  can_covered p =
      let a = can_is h q g p in
      let (s, m, x) = c.ticket a.start a.given in
      is_can h q e (record {
        ticket = a.ticket;
        start = s;
        given = m;
        extends = extends_on a.ticket a.start s a.extends x;
        met = λ l n. met_by h q e a.ticket (may_yes h q g a.ticket) (λ k y. may_covered a.ticket k (may h q g a.ticket k y)) l (a.met l n);
      })

-- a line more lets no more through
pub narrower : Narrower
narrower h q n l ls ys e = in_all (lines_hold_all h q ys) ls (λ x m. all_in (lines_hold_all h q ys) (there m) e)

-- a line more on a given ticket or yes lets one do no more
pub line_less : LineLess
line_less = (
  λ h q n l ls ts ys ss ks. can_covered h q _ _ (record { ticket = covers_first Extends extends_self _ _ ts (refl, (l ∷ [], refl)); word = covers_more Narrows narrows_self [] ys; shown = λ w m. m; key = λ k m. m }),
  λ h q k n ns ts ys ss ks. can_covered h q _ _ (record { ticket = covers_more Extends extends_self [] ts; word = covers_first Narrows narrows_self _ _ ys (refl, (n ∷ [], refl)); shown = λ w m. m; key = λ k m. m }),
)

-- whoever was given more can do no less
pub more_given : MoreGiven
more_given h q g ts ys ss ks =
    can_covered h q g _ (record { ticket = covers_more Extends extends_self ts g.tickets; word = covers_more Narrows narrows_self ys g.yeses; shown = λ w. in_right ss; key = λ k. in_right ks })
