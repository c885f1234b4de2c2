-- An answer is given exactly if its condition holds. Assumes nothing.
use Rattle.std.proofs.Common.{◌≡◌, Bool, true, false, ◌&&◌, eqb, ltb, leb, List, length, is_some, Ok, Err, Decides, Result, sym, refl, ap, ◌∙◌, subst}
use mathlib.Core.List.{Memᴰ}
use Rattle.std.proofs.lemmas.Bool.{and_parts, and_from, iff_false, cond-true, cond-false}
use Rattle.narrow.specs.Rows.{all, any}
use Rattle.narrow.specs.Term.{Bytes}
use Rattle.narrow.specs.Ticket as model
use Rattle.narrow.specs.TermBytes.{bytes_of}
use Rattle.narrow.specs.Policy.{most_lines, today, lets, all_met, serves}
use Rattle.narrow.proofs.Rows.{all_at, all_from}
use Rattle.narrow.proofs.Can.{same_bytes_lem}
use Rattle.lines.specs.declared.Fault.{Fault}
use Rattle.lines.specs.declared.Place.TheVariants as place
use Rattle.lines.specs.Meaning.{says}
use Rattle.rows.specs.Standing.{stands}
use Rattle.tickets.specs.Making.{Tied}
use Rattle.tickets.specs.Made.{Secrets, by_hmac}
use Rattle.codec.specs.Format.{fixed, row, wish, behind, both, only, named, counted}
use Rattle.judging.specs.Judged.{Judgement, judged}
use Rattle.judging.specs.Laws.{Cause}
use Rattle.judging.proofs.Causes.{decides_not, judged_right}
use Rattle.showing.specs.Showing.{ShownView, shown, shown_of}
use Rattle.showing.proofs.Shows.{shown_exact}
use Rattle.verifier.specs.declared.Refusal.TheVariants.{Unread, WrongMac, UnknownKey, WrongTie, Unmet}
use Rattle.verifier.specs.Verdict.{Verdict, right_mac, known_keys, right_ties, untied, of_lines, verdict_on, on_read, verdict}
use Rattle.verifier.specs.Laws.{MacRight, AllKnown, AllTied, AllRight, ThroughExactly, Why, VerdictExactly}

-- a test of a whole row decides what it decides of each
all_decides : {A : Type 0} (f : A → Bool) (P : A → Type 0) → ((x : A) → Decides (f x) (P x)) → (xs : List A) → Decides (all f xs) ((x : A) → Memᴰ x xs → P x)
all_decides f P d xs = (λ e x i. (d x).0 (all_at f i e), λ h. all_from f xs (λ x i. (d x).1 (h x i)))

module _ (s : Secrets) (v : ShownView) where
  pub mac_decides : Decides (right_mac s v.ticket) (MacRight s v)
  mac_decides = same_bytes_lem _ _

  pub known_decides : Decides (known_keys s v.yeses) (AllKnown s v)
  known_decides = all_decides _ (λ (y : Tied). is_some (s.key y.of.key) ≡ true) (λ y. (λ e. e, λ e. e)) v.yeses

  pub ties_decide : Decides (right_ties s v.ticket.of v.yeses) (AllTied s v)
  ties_decide = all_decides _ (λ (y : Tied). y.mac ≡ bytes_of (by_hmac s) (model.tie_of v.ticket.of y.of)) (λ y. same_bytes_lem _ _) v.yeses

-- what is read has no more lines than a ticket may have
few_lines : (v : ShownView) → shown.fits v ≡ true → leb (length v.ticket.of.lines) most_lines ≡ true
unfolding fixed row wish behind both only named counted
few_lines v e =
    let n = eqb (length v.ticket.of.number) 4 in
    let some = ltb 0 (length v.ticket.of.lines) in
    let few = leb (length v.ticket.of.lines) most_lines in
    let good = all (stands place.Ticket) v.ticket.of.lines in
    let body = n && (some && (few && good)) in
    let whole = (and_parts (body && eqb (length v.ticket.mac) 32) _ e).0 in
    let parts = (and_parts n (some && (few && good)) (and_parts body _ whole).0).1 in
    (and_parts few good (and_parts some (few && good) parts).1).0

module _ (s : Secrets) (bs : Bytes) where
  pub read_on : (v : ShownView) → shown_of bs ≡ Ok v → verdict s bs ≡ verdict_on s v
  unfolding verdict
  read_on v e = ap (on_read s) e

  pub not_read : (f : Fault) → shown_of bs ≡ Err f → verdict s bs ≡ Err (Unread f)
  unfolding verdict
  not_read f e = ap (on_read s) e

  module _ (v : ShownView) (e : shown_of bs ≡ Ok v) where
    wrong_mac : (MacRight s v → ⊥) → verdict s bs ≡ Err WrongMac
    unfolding verdict_on
    wrong_mac ne = read_on v e ∙ cond-false (right_mac s v.ticket) _ _ (decides_not _ (mac_decides s v) ne)

    module _ (m : MacRight s v) where
      unknown_key : (AllKnown s v → ⊥) → verdict s bs ≡ Err UnknownKey
      unfolding verdict_on
      unknown_key ne =
          read_on v e ∙ (cond-true (right_mac s v.ticket) _ _ ((mac_decides s v).1 m) ∙ cond-false (known_keys s v.yeses) _ _ (decides_not _ (known_decides s v) ne))

      module _ (k : AllKnown s v) where
        wrong_tie : (AllTied s v → ⊥) → verdict s bs ≡ Err WrongTie
        unfolding verdict_on
        wrong_tie ne =
            read_on v e ∙
            (cond-true (right_mac s v.ticket) _ _ ((mac_decides s v).1 m) ∙
            (cond-true (known_keys s v.yeses) _ _ ((known_decides s v).1 k) ∙ cond-false (right_ties s v.ticket.of v.yeses) _ _ (decides_not _ (ties_decide s v) ne)))

    by_lines_lem : AllRight s v → (j : Judgement) → Cause (says v.asked) v.ticket.of.lines (untied v.yeses) j → verdict s bs ≡ of_lines j
    unfolding verdict_on
    by_lines_lem r j c =
        read_on v e ∙
        (cond-true (right_mac s v.ticket) _ _ ((mac_decides s v).1 r.mac) ∙
        (cond-true (known_keys s v.yeses) _ _ ((known_decides s v).1 r.known) ∙
        (cond-true (right_ties s v.ticket.of v.yeses) _ _ ((ties_decide s v).1 r.ties) ∙
        ap of_lines ((judged_right (says v.asked) v.ticket.of.lines (untied v.yeses)).exactly j c))))

  -- the condition gives the answer
  gives : (a : Verdict) → Why s bs a → verdict s bs ≡ a
  unfolding lets
  gives (Ok _) w =
      let v = w.view in
      let judges = judged_right (says v.asked) v.ticket.of.lines (untied v.yeses) in
      let met = (and_parts (leb (length v.ticket.of.lines) most_lines) (all_met (says v.asked) (λ k. any (serves (today (says v.asked)) k) (untied v.yeses)) v.ticket.of.lines) w.met).1 in
      by_lines_lem v w.read w.right (Ok tt) (judges.told (Ok tt) (judges.each_met met))
  gives (Err (Unread f)) e = not_read f e
  gives (Err WrongMac) (v, e, ne) = wrong_mac v e ne
  gives (Err UnknownKey) (v, e, m, ne) = unknown_key v e m ne
  gives (Err WrongTie) (v, e, m, k, ne) = wrong_tie v e m k ne
  gives (Err (Unmet f)) (v, e, r, c) = by_lines_lem v e r (Err f) c

  -- what the lines come to is the condition of their answer
  of_lines_lem : (v : ShownView) → shown_of bs ≡ Ok v → AllRight s v → (j : Judgement) → judged (says v.asked) v.ticket.of.lines (untied v.yeses) ≡ j → Why s bs (of_lines j)
  unfolding lets
  of_lines_lem v e r (Ok _) q =
      let judges = judged_right (says v.asked) v.ticket.of.lines (untied v.yeses) in
      record { view = v; read = e; right = r; met = and_from _ _ (few_lines v (shown_exact.only bs v e).0) (judges.met q) }
  of_lines_lem v e r (Err f) q = (v, e, r, (judged_right (says v.asked) v.ticket.of.lines (untied v.yeses)).told (Err f) q)

  why : Why s bs (verdict s bs)
  why = read (shown_of bs) refl
    where
      lines : (v : ShownView) → shown_of bs ≡ Ok v → AllRight s v → Why s bs (verdict s bs)
      lines v e r =
          let j = judged (says v.asked) v.ticket.of.lines (untied v.yeses) in
          subst (Why s bs) (sym (by_lines_lem v e r j ((judged_right (says v.asked) v.ticket.of.lines (untied v.yeses)).told j refl))) (of_lines_lem v e r j refl)

      tied : (v : ShownView) → shown_of bs ≡ Ok v → MacRight s v → AllKnown s v → (b : Bool) → right_ties s v.ticket.of v.yeses ≡ b → Why s bs (verdict s bs)
      tied v e m k true h = lines v e (record { mac = m; known = k; ties = (ties_decide s v).0 h })
      tied v e m k false h = let ne = iff_false (ties_decide s v) h in subst (Why s bs) (sym (wrong_tie v e m k ne)) (v, e, m, k, ne)

      known : (v : ShownView) → shown_of bs ≡ Ok v → MacRight s v → (b : Bool) → known_keys s v.yeses ≡ b → Why s bs (verdict s bs)
      known v e m true h = tied v e m ((known_decides s v).0 h) (right_ties s v.ticket.of v.yeses) refl
      known v e m false h = let ne = iff_false (known_decides s v) h in subst (Why s bs) (sym (unknown_key v e m ne)) (v, e, m, ne)

      maced : (v : ShownView) → shown_of bs ≡ Ok v → (b : Bool) → right_mac s v.ticket ≡ b → Why s bs (verdict s bs)
      maced v e true h = known v e ((mac_decides s v).0 h) (known_keys s v.yeses) refl
      maced v e false h = let ne = iff_false (mac_decides s v) h in subst (Why s bs) (sym (wrong_mac v e ne)) (v, e, ne)

      read : (r : Result ShownView Fault) → shown_of bs ≡ r → Why s bs (verdict s bs)
      read (Ok v) e = maced v e (right_mac s v.ticket) refl
      read (Err f) e = subst (Why s bs) (sym (not_read f e)) e

pub verdict_exactly : VerdictExactly
verdict_exactly s bs a = (λ e. subst (Why s bs) e (why s bs), gives s bs a)

pub through_exactly : ThroughExactly
through_exactly s bs = verdict_exactly s bs (Ok tt)
