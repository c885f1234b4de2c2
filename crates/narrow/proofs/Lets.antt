-- What the house lets through, in words of its own. Assumes nothing.
use Rattle.std.proofs.Common.{◌≡◌, ℕ, Bool, true, ◌&&◌, eqb, ◌⊎◌, List, [], ◌∷◌, ◌++◌, length, sym, refl, ap, ◌∙◌, inl, inr, ⊎_elim, arith, length-append}
use mathlib.Core.List.Memᴰ
use mathlib.Core.List.{Memᴰ}
use Rattle.std.proofs.lemmas.Bool.{and_parts, and_from, eqb-true, eq-eqb, leb-true, le-leb}
use Rattle.narrow.specs.Rows.{any}
use Rattle.narrow.specs.Term.{Bytes}
use Rattle.narrow.specs.Ticket.{Ticket, Yes, Extends, Narrows, with_line, with_limit, Shown}
use Rattle.narrow.specs.Policy.{Says, Limit, Else, Unreadable, Meaning, Policy, Closed, most_lines, met, all_met, no_key, holds, serves, lets}
use Rattle.narrow.specs.Promise.{TodayClosed, Through, LetsMeans, ShownNarrower}
use Rattle.narrow.proofs.Rows.{contradiction, any_in, any_from, all_at, all_from}

-- a line is met if it is met with fewer keys served
pub met_more : (a b : ℕ → Bool) (s : Says) → ((k : ℕ) → s ≡ Else k → a k ≡ true → b k ≡ true) → met a s ≡ true → met b s ≡ true
met_more a b (Limit h) more e = e
met_more a b (Else k) more e = more k refl e
met_more a b Unreadable more e = e

-- lines are met if more keys are served
pub all_met_more : (v : Meaning) (a b : ℕ → Bool) (ls : List Bytes) → ((l : Bytes) → Memᴰ l ls → (k : ℕ) → v l ≡ Else k → a k ≡ true → b k ≡ true) →
    all_met v a ls ≡ true → all_met v b ls ≡ true
all_met_more v a b ls more h =
    all_from (λ l. met b (v l)) ls (λ l m. met_more a b (v l) (more l m) (all_at (λ x. met a (v x)) m h))

-- the lines of a front are met, if all are
pub all_met_front : (v : Meaning) (a : ℕ → Bool) (ls front more : List Bytes) → ls ≡ front ++ more → all_met v a ls ≡ true → all_met v a front ≡ true
all_met_front v a ls front more e h =
    all_from (λ l. met a (v l)) front (λ l m. all_at (λ x. met a (v x)) (Memᴰ.append_left more m) (ap (all_met v a) (sym e) ∙ h))

-- a yes holds, if it does with limits added
pub holds_front : (v : Meaning) (y z : Yes) → Narrows y z → holds v y ≡ true → holds v z ≡ true
holds_front v y z n h = all_met_front v no_key y.lines z.lines n.1.0 n.1.1 h

-- what it is that a yes serves
pub record Serving (p : Policy) (k : ℕ) (y : Yes) : Type 0 where
  pub used : p.uses k ≡ true
  pub keyed : y.key ≡ k
  pub held : holds p.says y ≡ true

pub serves_is : (p : Policy) (k : ℕ) (y : Yes) → serves p k y ≡ true → Serving p k y
serves_is p k y e =
    let a = and_parts (p.uses k) (eqb y.key k && holds p.says y) e in
    let b = and_parts (eqb y.key k) (holds p.says y) a.1 in
    record { used = a.0; keyed = eqb-true y.key k b.0; held = b.1 }

pub serves_from : (p : Policy) (k : ℕ) (y : Yes) → Serving p k y → serves p k y ≡ true
serves_from p k y s =
    and_from (p.uses k) (eqb y.key k && holds p.says y) s.used
    (and_from (eqb y.key k) (holds p.says y) (eq-eqb y.key k s.keyed) s.held)

-- a yes serves, if it does with limits added
pub serves_front : (p : Policy) (k : ℕ) (y z : Yes) → Narrows y z → serves p k y ≡ true → serves p k z ≡ true
serves_front p k y z n e =
    let s = serves_is p k y e in
    serves_from p k z (record { used = s.used; keyed = sym n.0 ∙ s.keyed; held = holds_front p.says y z n s.held })

-- a line is a limit that holds, where nothing is served
pub met_by_none : (s : Says) → met no_key s ≡ true → s ≡ Limit true
met_by_none (Limit b) e = ap Limit e
met_by_none (Else k) e = contradiction (cc)
met_by_none Unreadable e = contradiction (cc)

pub met_limit : (a : ℕ → Bool) (s : Says) → s ≡ Limit true → met a s ≡ true
met_limit a s e = ap (met a) e

-- `lets`, part by part
pub lets_parts : (p : Policy) (s : Shown) → lets p s ≡ true → (p.takes s.ticket ≡ true) × (all_met p.says (λ k. any (serves p k) s.yeses) s.ticket.lines ≡ true)
unfolding lets
lets_parts p s e = and_parts (p.takes s.ticket) (all_met p.says (λ k. any (serves p k) s.yeses) s.ticket.lines) e

pub lets_from : (p : Policy) (s : Shown) → p.takes s.ticket ≡ true → all_met p.says (λ k. any (serves p k) s.yeses) s.ticket.lines ≡ true → lets p s ≡ true
unfolding lets
lets_from p s a b = and_from (p.takes s.ticket) (all_met p.says (λ k. any (serves p k) s.yeses) s.ticket.lines) a b

module _ (p : Policy) (s : Shown) where
  abbrev shown_for : ℕ → Bool
  shown_for k = any (serves p k) s.yeses

  line_met : lets p s ≡ true → (l : Bytes) → Memᴰ l s.ticket.lines → met shown_for (p.says l) ≡ true
  line_met e l m = all_at (λ x. met shown_for (p.says x)) m (lets_parts p s e).1

  through_yes : (k : ℕ) → shown_for k ≡ true → (y : Yes) × Memᴰ y s.yeses × (y.key ≡ k) × (p.uses k ≡ true) × ((m : Bytes) → Memᴰ m y.lines → p.says m ≡ Limit true)
  through_yes k e =
      let r = any_in (serves p k) s.yeses e in
      let h = serves_is p k r.0 r.2 in
      (r.0, r.1, h.keyed, h.used, λ m i. met_by_none (p.says m) (all_at (λ x. met no_key (p.says x)) i h.held))

  through : lets p s ≡ true → Through p s
  through e =
      record {
        taken = (lets_parts p s e).0;
        readable = λ l m u. contradiction (let h : met shown_for Unreadable ≡ true = ap (met shown_for) (sym u) ∙ line_met e l m in cc);
        limits = λ l m b u. ap (met shown_for) (sym u) ∙ line_met e l m;
        elses = λ l m k u. through_yes k (ap (met shown_for) (sym u) ∙ line_met e l m);
      }

  line_met_from : Through p s → (l : Bytes) → Memᴰ l s.ticket.lines → (q : Says) → p.says l ≡ q → met shown_for q ≡ true
  line_met_from t l m (Limit b) e = t.limits l m b e
  line_met_from t l m (Else k) e =
      let r = t.elses l m k e in
      any_from (serves p k) r.1
      (serves_from p k r.0 (record { used = r.3; keyed = r.2; held = all_from (λ x. met no_key (p.says x)) r.0.lines (λ x i. met_limit no_key (p.says x) (r.4 x i)) }))
  line_met_from t l m Unreadable e = absurd (t.readable l m e)

  from_through : Through p s → lets p s ≡ true
  from_through t = lets_from p s t.taken (all_from (λ x. met shown_for (p.says x)) s.ticket.lines (λ l m. line_met_from t l m (p.says l) refl))

pub lets_means : LetsMeans
lets_means p s = (through p s, from_through p s)

pub today_closed : TodayClosed
today_closed v t s e h =
    le-leb (length s.lines) most_lines
    (omega (arith, leb-true (length t.lines) most_lines h, ap length e.1.1, length-append s.lines e.1.0))

-- a ticket with last lines left off, shown with the same yeses
pub lets_front : (p : Policy) → Closed p → (t s : Ticket) (ys : List Yes) → Extends t s → lets p (record { ticket = t; yeses = ys }) ≡ true → lets p (record { ticket = s; yeses = ys }) ≡ true
lets_front p closed t s ys x e =
    let both = lets_parts p (record { ticket = t; yeses = ys }) e in
    lets_from p (record { ticket = s; yeses = ys }) (closed t s x both.0)
    (all_met_front p.says (λ k. any (serves p k) ys) t.lines s.lines x.1.0 x.1.1 both.1)

-- yeses exchanged for ones that serve wherever these do
pub lets_exchanged : (p : Policy) (t : Ticket) (ys zs : List Yes) → ((y : Yes) → Memᴰ y ys → (k : ℕ) → serves p k y ≡ true → any (serves p k) zs ≡ true) →
    lets p (record { ticket = t; yeses = ys }) ≡ true → lets p (record { ticket = t; yeses = zs }) ≡ true
lets_exchanged p t ys zs serve e =
    let both = lets_parts p (record { ticket = t; yeses = ys }) e in
    lets_from p (record { ticket = t; yeses = zs }) both.0
    (all_met_more p.says (λ k. any (serves p k) ys) (λ k. any (serves p k) zs) t.lines
    (λ l m k u h. let r = any_in (serves p k) ys h in serve r.0 r.1 k r.2) both.1)

limit_less : (p : Policy) (t : Ticket) (ys : List Yes) (y : Yes) (l : Bytes) (zs : List Yes) →
    lets p (record { ticket = t; yeses = ys ++ with_limit y l ∷ zs }) ≡ true → lets p (record { ticket = t; yeses = ys ++ y ∷ zs }) ≡ true
limit_less p t ys y l zs = lets_exchanged p t (ys ++ with_limit y l ∷ zs) (ys ++ y ∷ zs) serve
  where
    later : (z : Yes) (k : ℕ) → serves p k z ≡ true → (z ≡ with_limit y l) ⊎ Memᴰ z zs → any (serves p k) (ys ++ y ∷ zs) ≡ true
    later z k h (inl e) =
        any_from (serves p k) (Memᴰ.append_right ys (Memᴰ.head refl))
        (serves_front p k (with_limit y l) y (refl, (l ∷ [], refl)) (ap (serves p k) (sym e) ∙ h))
    later z k h (inr m) = any_from (serves p k) (Memᴰ.append_right ys (Memᴰ.tail m)) h

    serve : (z : Yes) → Memᴰ z (ys ++ with_limit y l ∷ zs) → (k : ℕ) → serves p k z ≡ true → any (serves p k) (ys ++ y ∷ zs) ≡ true
    serve z m k h =
        ⊎_elim (λ (a : Memᴰ z ys). any_from (serves p k) (Memᴰ.append_left (y ∷ zs) a) h)
        (λ (a : Memᴰ z (with_limit y l ∷ zs)). later z k h (Memᴰ.cases_cons a)) (Memᴰ.append_cases ys m)

pub shown_narrower : ShownNarrower
shown_narrower p closed =
    record { line = λ t l ys. lets_front p closed (with_line t l) t ys (refl, (l ∷ [], refl)); limit = limit_less p }
