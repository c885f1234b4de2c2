-- Terms with the same bytes are the same, or HMAC is broken; and what follows for what is shown. Assumes nothing.
use Rattle.std.proofs.Common.{◌≡◌, Bool, true, ◌≢◌, ◌⊎◌, List, [], ◌∷◌, map, length, sym, refl, ap, subst, inl, inr, ⊎_elim, arith}
use mathlib.Core.List.{Memᴰ}
use Rattle.std.proofs.lemmas.Bool.{and_parts, cases_eq, cases_Bool}
use Rattle.narrow.specs.Term.{Bytes, mac_length, Origin, House, KeyOf, Term, Secret, Own, Mac, Tie, Gets, macs}
use Rattle.narrow.specs.Ticket.{terms_of, shown_terms, CanShow, Shown, ticket_mac, yes_message, tie_of}
use Rattle.narrow.specs.Can.{same_bytes, can}
use Rattle.narrow.specs.TermBytes.{Interpretation, tie_message, bytes_of, source_of, Part, itself, under, left, right, Clash, Broken, SameOrBroken, BrokenIn, ShownOrBroken, CanOrBroken, Sized, NoTie, Message, of_number, of_yes, of_line, Formatted, input_of, FormatsApart, InputsGive, ShownLines, HmacBrokenIn, CanOrHmacBroken}
use Rattle.narrow.proofs.Rows.{contradiction, map_in, map_from}
use Rattle.narrow.proofs.Can.{same_bytes_lem}
use Rattle.narrow.proofs.Exact.{complete}
use Rattle.narrow.specs.Rows.{all}

-- bytes are equal or not
bytes_cases : (a b : Bytes) → (a ≡ b) ⊎ (a ≢ b)
bytes_cases a b = ⊎_elim (λ e. inl ((same_bytes_lem a b).0 e)) (λ e. inr (λ q. let h = (same_bytes_lem a b).1 q in contradiction (cc))) (cases_Bool (same_bytes a b))

origin_cases : (o q : Origin) → (o ≡ q) ⊎ (o ≢ q)
origin_cases House House = inl refl
origin_cases House (KeyOf k) = inr (λ e. contradiction (cc))
origin_cases (KeyOf k) House = inr (λ e. contradiction (cc))
origin_cases (KeyOf j) (KeyOf k) = ⊎_elim (λ (e : j ≡ k). inl (ap KeyOf e)) (λ n. inr (λ e. n (cc))) (cases_eq j k)

module _ (i : Interpretation) where
  -- broken at the two terms themselves
  here : (t u : Term) → bytes_of i t ≡ bytes_of i u → source_of i t ≢ source_of i u → (t ≡ u) ⊎ Broken i t u
  here t u e n = inr (record { one = t; one_part = itself; other = u; other_part = itself; same = e; apart = n })

  -- broken at parts of the parts
  within : {t u a b : Term} → ((x : Term) → Part x t → Part x a) → ((x : Term) → Part x u → Part x b) → Broken i t u → Broken i a b
  within f g c =
      record { one = c.one; one_part = f c.one c.one_part; other = c.other; other_part = g c.other c.other_part; same = c.same; apart = c.apart }

  same_mac : (t u : Term) (m n : Bytes) → (bytes_of i t ≡ bytes_of i u → (t ≡ u) ⊎ Broken i t u) → bytes_of i (Mac t m) ≡ bytes_of i (Mac u n) →
      (Mac t m ≡ Mac u n) ⊎ Broken i (Mac t m) (Mac u n)
  unfolding source_of
  same_mac t u m n below e = step (bytes_cases (bytes_of i t) (bytes_of i u)) (bytes_cases m n)
    where
      step : (bytes_of i t ≡ bytes_of i u) ⊎ (bytes_of i t ≢ bytes_of i u) → (m ≡ n) ⊎ (m ≢ n) → (Mac t m ≡ Mac u n) ⊎ Broken i (Mac t m) (Mac u n)
      step (inl k) (inl q) = ⊎_elim (λ (p : t ≡ u). inl (cc)) (λ (b : Broken i t u). inr (within (λ x p. under p) (λ x p. under p) b)) (below k)
      step (inl k) (inr q) = here (Mac t m) (Mac u n) e (λ s. q (cc))
      step (inr k) q = here (Mac t m) (Mac u n) e (λ s. k (cc))

  same_tie : (a e b f : Term) → (bytes_of i a ≡ bytes_of i b → (a ≡ b) ⊎ Broken i a b) → (bytes_of i e ≡ bytes_of i f → (e ≡ f) ⊎ Broken i e f) →
      bytes_of i (Tie a e) ≡ bytes_of i (Tie b f) → (Tie a e ≡ Tie b f) ⊎ Broken i (Tie a e) (Tie b f)
  unfolding source_of
  same_tie a e b f one two q = step (bytes_cases (bytes_of i a) (bytes_of i b)) (bytes_cases (bytes_of i e) (bytes_of i f))
    where
      both : (a ≡ b) ⊎ Broken i a b → (e ≡ f) ⊎ Broken i e f → (Tie a e ≡ Tie b f) ⊎ Broken i (Tie a e) (Tie b f)
      both (inl p) (inl r) = inl (cc)
      both (inl p) (inr r) = inr (within (λ x p. right p) (λ x p. right p) r)
      both (inr p) r = inr (within (λ x p. left p) (λ x p. left p) p)

      step : (bytes_of i a ≡ bytes_of i b) ⊎ (bytes_of i a ≢ bytes_of i b) → (bytes_of i e ≡ bytes_of i f) ⊎ (bytes_of i e ≢ bytes_of i f) → (Tie a e ≡ Tie b f) ⊎ Broken i (Tie a e) (Tie b f)
      step (inl p) (inl r) = both (one p) (two r)
      step (inl p) (inr r) = here (Tie a e) (Tie b f) q (λ s. r (cc))
      step (inr p) r = here (Tie a e) (Tie b f) q (λ s. p (cc))

  same : (t u : Term) → bytes_of i t ≡ bytes_of i u → (t ≡ u) ⊎ Broken i t u
  unfolding source_of
  same (Secret o) (Secret q) e = ⊎_elim (λ (p : o ≡ q). inl (ap Secret p)) (λ n. here (Secret o) (Secret q) e (λ s. n (cc))) (origin_cases o q)
  same (Secret o) (Own b) e = here (Secret o) (Own b) e (λ s. contradiction (cc))
  same (Secret o) (Mac u n) e = here (Secret o) (Mac u n) e (λ s. contradiction (cc))
  same (Secret o) (Tie b f) e = here (Secret o) (Tie b f) e (λ s. contradiction (cc))
  same (Own a) (Secret o) e = here (Own a) (Secret o) e (λ s. contradiction (cc))
  same (Own a) (Own b) e = ⊎_elim (λ (p : a ≡ b). inl (ap Own p)) (λ n. here (Own a) (Own b) e (λ s. n (cc))) (bytes_cases a b)
  same (Own a) (Mac u n) e = here (Own a) (Mac u n) e (λ s. contradiction (cc))
  same (Own a) (Tie b f) e = here (Own a) (Tie b f) e (λ s. contradiction (cc))
  same (Mac t m) (Secret o) e = here (Mac t m) (Secret o) e (λ s. contradiction (cc))
  same (Mac t m) (Own b) e = here (Mac t m) (Own b) e (λ s. contradiction (cc))
  same (Mac t m) (Mac u n) e = same_mac t u m n (same t u) e
  same (Mac t m) (Tie b f) e = here (Mac t m) (Tie b f) e (λ s. contradiction (cc))
  same (Tie a e₁) (Secret o) e = here (Tie a e₁) (Secret o) e (λ s. contradiction (cc))
  same (Tie a e₁) (Own b) e = here (Tie a e₁) (Own b) e (λ s. contradiction (cc))
  same (Tie a e₁) (Mac u n) e = here (Tie a e₁) (Mac u n) e (λ s. contradiction (cc))
  same (Tie a e₁) (Tie b f) e = same_tie a e₁ b f (same a b) (same e₁ f) e

pub same_or_broken : SameOrBroken
same_or_broken = same

-- a property of each element, or a failure at one
each_or : {A : Type 0} {P : A → Type 0} {Q : Type 0} (xs : List A) → ((x : A) → Memᴰ x xs → P x ⊎ Q) → ((x : A) → Memᴰ x xs → P x) ⊎ Q
each_or [] f = inl (λ x m. absurd (mathlib.Core.List.Memᴰ.not-nil m))
each_or {A} {P} {Q} (x ∷ xs) f = step (f x (mathlib.Core.List.Memᴰ.head refl)) (each_or xs (λ y m. f y (mathlib.Core.List.Memᴰ.tail m)))
  where
    at : P x → ((y : A) → Memᴰ y xs → P y) → (y : A) → Memᴰ y (x ∷ xs) → P y
    at a below y m = ⊎_elim (λ (e : y ≡ x). subst P (sym e) a) (below y) (mathlib.Core.List.Memᴰ.cases_cons m)

    step : P x ⊎ Q → ((y : A) → Memᴰ y xs → P y) ⊎ Q → ((y : A) → Memᴰ y (x ∷ xs) → P y) ⊎ Q
    step (inl a) (inl below) = inl (at a below)
    step (inl a) (inr q) = inr q
    step (inr q) r = inr q

pub shown_or_broken : ShownOrBroken
shown_or_broken i have s shown e d = each_or (shown_terms s) derived
  where
    derived : (t : Term) → Memᴰ t (shown_terms s) → Gets have t ⊎ BrokenIn i have s shown d
    derived t m =
        let place : Memᴰ (bytes_of i t) shown = rw e (map_from (bytes_of i) m) in
        let r = d (bytes_of i t) place in
        ⊎_elim (λ (q : r.term ≡ t). inl (subst (Gets have) q r.gets)) (λ (b : Broken i r.term t). inr (t, m, bytes_of i t, place, refl, b)) (same i r.term t r.same)

pub can_or_broken : CanOrBroken
can_or_broken i p closed g s shown e d h =
    ⊎_elim (λ (c : CanShow (terms_of g) s). inl ((complete p closed g).0 s c h)) (λ (b : BrokenIn i (terms_of g) s shown d). inr b) (shown_or_broken i (terms_of g) s shown e d)

-- the bytes of a formatted term are 32
size : (i : Interpretation) → Sized i → (is_line : Bytes → Bool) (t : Term) → Formatted is_line t → length (bytes_of i t) ≡ mac_length
unfolding bytes_of Formatted
size i z is_line (Secret o) f = z.secret_size o
size i z is_line (Own b) f = f
size i z is_line (Mac t m) f = z.hmac_size (bytes_of i t) m
size i z is_line (Tie a e) f = z.hmac_size (bytes_of i a) (tie_message (bytes_of i e))

-- a message of the formats is not a byte 3 and 32 bytes
message_no_tie : (is_line : Bytes → Bool) → ((l : Bytes) → is_line l ≡ true → NoTie l) → {m : Bytes} → Message is_line m → NoTie m
message_no_tie is_line none (of_number four) rest e s = omega (arith, four, ap length e, s)
message_no_tie is_line none of_yes rest e s = contradiction (cc)
message_no_tie is_line none (of_line l) rest e s = none _ l rest e s

-- a part of a formatted term is formatted
formatted_part : (is_line : Bytes → Bool) {x t : Term} → Part x t → Formatted is_line t → Formatted is_line x
unfolding Formatted
formatted_part is_line itself f = f
formatted_part is_line (under p) f = formatted_part is_line p f.0
formatted_part is_line (left p) f = formatted_part is_line p f.0
formatted_part is_line (right p) f = formatted_part is_line p f.1

module _ (i : Interpretation) (z : Sized i) (is_line : Bytes → Bool) (none : (l : Bytes) → is_line l ≡ true → NoTie l) where
  no_tie : (m : Bytes) → Message is_line m → (e : Term) → Formatted is_line e → m ≢ tie_message (bytes_of i e)
  no_tie m f e fe q = message_no_tie is_line none f (bytes_of i e) q (size i z is_line e fe)

  -- different sources are different inputs
  inputs_apart : (t u : Term) → Formatted is_line t → Formatted is_line u → source_of i t ≢ source_of i u → input_of i t ≢ input_of i u
  unfolding source_of input_of Formatted
  inputs_apart (Secret o) (Secret q) f g n e = n (cc)
  inputs_apart (Secret o) (Own b) f g n e = contradiction (cc)
  inputs_apart (Secret o) (Mac u m) f g n e = contradiction (cc)
  inputs_apart (Secret o) (Tie b c) f g n e = contradiction (cc)
  inputs_apart (Own a) (Secret o) f g n e = contradiction (cc)
  inputs_apart (Own a) (Own b) f g n e = n (cc)
  inputs_apart (Own a) (Mac u m) f g n e = contradiction (cc)
  inputs_apart (Own a) (Tie b c) f g n e = contradiction (cc)
  inputs_apart (Mac t l) (Secret o) f g n e = contradiction (cc)
  inputs_apart (Mac t l) (Own b) f g n e = contradiction (cc)
  inputs_apart (Mac t l) (Mac u m) f g n e = n (cc)
  inputs_apart (Mac t l) (Tie b c) f g n e = no_tie l f.1 c g.1 (cc)
  inputs_apart (Tie a d) (Secret o) f g n e = contradiction (cc)
  inputs_apart (Tie a d) (Own b) f g n e = contradiction (cc)
  inputs_apart (Tie a d) (Mac u m) f g n e = no_tie m g.1 d f.1 (cc)
  inputs_apart (Tie a d) (Tie b c) f g n e = n (cc)

  broken : (t u : Term) → Formatted is_line t → Formatted is_line u → Broken i t u → Clash i (input_of i) t u
  broken t u f g c =
      record {
        one = c.one;
        one_part = c.one_part;
        other = c.other;
        other_part = c.other_part;
        same = c.same;
        apart = inputs_apart c.one c.other (formatted_part is_line c.one_part f) (formatted_part is_line c.other_part g) c.apart;
      }

pub formats_apart : FormatsApart
formats_apart i z is_line none = record { no_tie = no_tie i z is_line none; broken = broken i z is_line none }

pub inputs_give : InputsGive
unfolding input_of bytes_of
inputs_give i (Secret o) k m e = contradiction (cc)
inputs_give i (Own b) k m e = contradiction (cc)
inputs_give i (Mac t l) k m e = cc
inputs_give i (Tie a b) k m e = cc

-- a row of MACs of the formats' messages under a formatted term
formatted_macs : (is_line : Bytes → Bool) (t : Term) (ls : List Bytes) → Formatted is_line t → all is_line ls ≡ true → Formatted is_line (macs t ls)
unfolding macs all Formatted
formatted_macs is_line t [] f e = f
formatted_macs is_line t (l ∷ ls) f e =
    let (here, below) = and_parts (is_line l) (all is_line ls) e in
    formatted_macs is_line (Mac t l) ls (f, of_line here) below

-- the terms that the house works out are formatted
shown_formatted : (is_line : Bytes → Bool) (s : Shown) → ShownLines is_line s → (t : Term) → Memᴰ t (shown_terms s) → Formatted is_line t
unfolding macs Formatted
shown_formatted is_line s h t m = ⊎_elim first rest (mathlib.Core.List.Memᴰ.cases_cons m)
  where
    ticket : Formatted is_line (ticket_mac s.ticket)
    ticket = formatted_macs is_line (Mac (Secret House) s.ticket.number) s.ticket.lines (tt, of_number h.number) h.lines

    first : t ≡ ticket_mac s.ticket → Formatted is_line t
    first e = subst (Formatted is_line) (sym e) ticket

    rest : Memᴰ t (map (tie_of s.ticket) s.yeses) → Formatted is_line t
    rest j =
        let (y, i, e) = map_in (tie_of s.ticket) s.yeses t j in
        let yes' = formatted_macs is_line (Mac (Secret (KeyOf y.key)) yes_message) y.lines (tt, of_yes) (h.limits y i) in
        subst (Formatted is_line) (sym e) (ticket, yes')

pub can_or_hmac_broken : CanOrHmacBroken
can_or_hmac_broken i z is_line none p closed g s shown h e d f l =
    ⊎_elim (λ (c : can p g ≡ true). inl c) (λ (b : BrokenIn i (terms_of g) s shown d). inr (real b)) (can_or_broken i p closed g s shown e d l)
  where
    real : BrokenIn i (terms_of g) s shown d → HmacBrokenIn i (terms_of g) s shown d
    real (t, m, b, n, q, k) =
        (t, m, b, n, q, (formats_apart i z is_line none).broken (d b n).term t (f b n) (shown_formatted is_line s h t m) k)
