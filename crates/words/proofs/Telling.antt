-- Words that are read as a line are that line. Assumes nothing.
use Rattle.std.proofs.Common.{◌≡◌, ℕ, Bool, true, false, cond, leb, ◌⊎◌, List, [], ◌∷◌, length, Ok, codes, Result, sym, refl, ap, ◌∙◌, subst, inl, inr, ⊎_elim, arith}
use Rattle.std.specs.Str.{bytes_eq}
use Rattle.std.proofs.lemmas.Slice.Eq.{bytes_eq-Decides}
use Rattle.std.proofs.lemmas.Bool.{and_from, le-leb}
use Rattle.narrow.specs.Rows.{all}
use Rattle.parts.specs.Limits.{LimitView, MuseumIn, DayIn, MinuteIn, PersonsUpTo, NameIs, LineView, ALimit, AnElse, is_line, is_museums, is_name, is_letter, longest_name, last_key}
use Rattle.texts.specs.declared.Cause.{Cause}
use Rattle.texts.specs.declared.Cause.TheVariants.{NoSuchMuseum, NoSuchKey, BadLetter, LongName}
use Rattle.texts.specs.Cuts.{parts, comma, one_word, maybe_word}
use Rattle.words.specs.Lines.{listed, known_museums, museums_of, span_of, name_of, key_of, limit_of, line_of}
use Rattle.words.specs.Means.{Means, museums_are, days_are, minutes_are, persons_are, name_is, no_name, key_is}
use Rattle.texts.specs.Numerals.{number_of}
use Rattle.texts.specs.Results.{and_then, and_is}
use Rattle.texts.proofs.Digits.{number_told}
use Rattle.words.proofs.Listing.{listed_told, rejoined_parts}
use Rattle.words.proofs.Spans.{span_told}
use Rattle.texts.proofs.Steps.{err_ok, then_ok, is_ok, cond_ok, one_told, maybe_told}

abbrev pub Good : List (List ℕ) → LineView → Type 0
Good ws v = Means ws v × (is_line v ≡ true)

good_at : {ws us : List (List ℕ)} {v u : LineView} → ws ≡ us → v ≡ u → Good us u → Good ws v
good_at {us = us} {v = v} e f g = subst (λ x. Good x v) (sym e) (subst (Good us) (sym f) g)

either : {X : Type 0} (b : Bool) (r s : Result X Cause) (x : X) → cond b r s ≡ Ok x → ((b ≡ true) × (r ≡ Ok x)) ⊎ (s ≡ Ok x)
either true r s x e = inl (refl, e)
either false r s x e = inr e

-- a first word, the one word after it, and what that says
record One {X Y : Type 0} (kind first : List ℕ) (ws : List (List ℕ)) (f : List ℕ → Result X Cause) (g : X → Y) (y : Y) : Type 0 where
  word : List ℕ
  says : X
  are : kind ∷ ws ≡ first ∷ word ∷ []
  read : f word ≡ Ok says
  is : y ≡ g says

one : {X Y : Type 0} (kind first : List ℕ) (ws : List (List ℕ)) (f : List ℕ → Result X Cause) (g : X → Y) (y : Y) → (bytes_eq kind first ≡ true) × (and_is (and_then (one_word ws) f) g ≡ Ok y) → One kind first ws f g y
one kind first ws f g y h =
    let a = is_ok (and_then (one_word ws) f) g y h.1 in
    let b = then_ok (one_word ws) f a.0 a.1 in
    let k = (bytes_eq-Decides kind first).0 h.0 in
    let w = one_told ws b.0 b.1 in
    record { word = b.0; says = a.0; are = cc; read = b.2; is = a.2 }

museums_good : (w ms : List ℕ) → museums_of w ≡ Ok ms → Good (codes "museums" ∷ w ∷ []) (ALimit (MuseumIn ms))
unfolding museums_of
museums_good w ms e =
    let n = then_ok (listed [] (parts comma w)) known_museums ms e in
    let k = cond_ok (is_museums n.0) (Ok n.0) NoSuchMuseum ms n.2 in
    let is : n.0 ≡ ms = cc in
    let t = listed_told [] (parts comma w) n.0 n.1 in
    good_at (ap (λ x. codes "museums" ∷ x ∷ []) (sym (rejoined_parts w))) (ap (λ x. ALimit (MuseumIn x)) (sym is ∙ t.1))
    (museums_are (parts comma w) t.0 t.2, subst (λ x. is_museums x ≡ true) t.1 k.0)

name_good : (w ls : List ℕ) → name_of w ≡ Ok ls → (w ≡ ls) × (is_name ls ≡ true)
unfolding name_of
name_good w ls e =
    let a = cond_ok (leb (length w) longest_name) _ LongName ls e in
    let b = cond_ok (all is_letter w) (Ok w) BadLetter ls a.1 in
    let is : w ≡ ls = cc in
    (is, subst (λ x. is_name x ≡ true) is (and_from (leb (length w) longest_name) _ a.0 b.0))

key_good : (w : List ℕ) (k : ℕ) → key_of w ≡ Ok k → Good (codes "else" ∷ w ∷ []) (AnElse k)
unfolding key_of
key_good w k e =
    let a = then_ok (number_of 65535 w) _ k e in
    let b = cond_ok (leb a.0 last_key) (Ok a.0) NoSuchKey k a.2 in
    let is : a.0 ≡ k = cc in
    subst (λ x. Good (codes "else" ∷ w ∷ []) (AnElse x)) is (key_is w a.0 (number_told 65535 w a.0 (omega arith) a.1).0, b.0)

module _ (kind : List ℕ) (ws : List (List ℕ)) (l : LimitView) where
  abbrev Says : Type 0
  Says = Good (kind ∷ ws) (ALimit l)

  of_name : (bytes_eq kind (codes "name") ≡ true) × (and_is (and_then (maybe_word ws) name_of) NameIs ≡ Ok l) → Says
  of_name h =
      let a = is_ok (and_then (maybe_word ws) name_of) NameIs l h.1 in
      let b = then_ok (maybe_word ws) name_of a.0 a.1 in
      let n = name_good b.0 a.0 b.2 in
      let k = (bytes_eq-Decides kind (codes "name")).0 h.0 in
      let at : l ≡ NameIs b.0 = a.2 ∙ ap NameIs (sym n.0) in
      let fits = subst (λ x. is_name x ≡ true) (sym n.0) n.1 in
      ⊎_elim
      (λ z. good_at (ap (λ x. x ∷ ws) k ∙ ap (λ x. codes "name" ∷ x) z.0) (ap ALimit (at ∙ ap NameIs z.1)) (no_name, subst (λ x. is_name x ≡ true) z.1 fits))
      (λ z. good_at (ap (λ x. x ∷ ws) k ∙ ap (λ x. codes "name" ∷ x) z) (ap ALimit at) (name_is b.0, fits))
      (maybe_told ws b.0 b.1)

  limit_told : limit_of kind ws ≡ Ok l → Says
  unfolding limit_of
  limit_told e =
      ⊎_elim (λ h. let a = one kind (codes "museums") ws museums_of MuseumIn l h in good_at a.are (ap ALimit a.is) (museums_good a.word a.says a.read))
      (λ e. ⊎_elim
      (λ h. let a = one kind (codes "days") ws span_of (λ s. DayIn s.0 s.1) l h in
      let s = span_told a.word a.says a.read in
      good_at (a.are ∙ ap (λ x. codes "days" ∷ x ∷ []) s.cut) (ap ALimit a.is) (days_are s.front s.back _ _ s.from s.to, s.span))
      (λ e. ⊎_elim
      (λ h. let a = one kind (codes "minutes") ws span_of (λ s. MinuteIn s.0 s.1) l h in
      let s = span_told a.word a.says a.read in
      good_at (a.are ∙ ap (λ x. codes "minutes" ∷ x ∷ []) s.cut) (ap ALimit a.is) (minutes_are s.front s.back _ _ s.from s.to, s.span))
      (λ e. ⊎_elim
      (λ h. let a = one kind (codes "persons") ws (number_of 255) PersonsUpTo l h in
      let n = number_told 255 a.word a.says (omega arith) a.read in
      good_at a.are (ap ALimit a.is) (persons_are a.word a.says n.0, le-leb a.says 255 n.1))
      (λ e. ⊎_elim of_name (λ e. absurd (err_ok _ _ e)) (either (bytes_eq kind (codes "name")) _ _ l e))
      (either (bytes_eq kind (codes "persons")) _ _ l e))
      (either (bytes_eq kind (codes "minutes")) _ _ l e))
      (either (bytes_eq kind (codes "days")) _ _ l e))
      (either (bytes_eq kind (codes "museums")) _ _ l e)

pub line_told : (ws : List (List ℕ)) (v : LineView) → line_of ws ≡ Ok v → Good ws v
unfolding line_of
line_told [] v e = absurd (err_ok _ _ e)
line_told (kind ∷ ws) v e =
    ⊎_elim
    (λ h. let a = one kind (codes "else") ws key_of AnElse v h in good_at a.are a.is (key_good a.word a.says a.read))
    (λ h. let a = is_ok (limit_of kind ws) ALimit v h in good_at refl a.2 (limit_told kind ws a.0 a.1))
    (either (bytes_eq kind (codes "else")) _ _ v e)
