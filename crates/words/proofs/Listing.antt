-- Numbers with commas between them. Assumes nothing.
use Rattle.std.proofs.Common.{◌≡◌, ℕ, ◌+◌, ◌<◌, ◌≤◌, true, false, ltb, List, [], ◌∷◌, ◌++◌, length, Ok, Err, sym, refl, ap, ◌∙◌, append_assoc, append-nil, arith, length-append, Bor}
use Rattle.std.specs.Str.Iter.{split_text, split_has_more, split_pattern}
use Rattle.std.specs.List.{join_with_byte, AllByRecursion}
use Rattle.std.specs.declared.str.Split.{Split}
use Rattle.std.proofs.lemmas.Bool.{cond-true, cond-false, cond_both, and_parts, lt-ltb, le-ltb, eqb-true}
use Rattle.std.proofs.lemmas.Bool.Decides.{nat_tests}
use Rattle.narrow.specs.Rows.{all}
use Rattle.parts.specs.Limits.{is_museum}
use Rattle.texts.specs.declared.Cause.{Cause}
use Rattle.texts.specs.declared.Cause.TheVariants.{TooManyMuseums}
use Rattle.texts.specs.Cuts.{onto, parts, comma}
use Rattle.words.specs.Lines.{listed}
use Rattle.words.specs.Means.{WriteAll}
use Rattle.texts.specs.Numerals.{number_of}
use Rattle.texts.specs.Results.{and_then}
use Rattle.texts.proofs.Cuts.{Free, parts_all, parts_cut, Next, to_come, took}
use Rattle.texts.proofs.Digits.{number_takes, number_told, writes_digits, digits_free}
use Rattle.texts.proofs.Steps.{then_ok, cond_ok}

-- ---- the loop

-- list is what was read, and s has the parts to come
pub record Sofar (list : List ℕ) (s : Split ℕ) (word : List ℕ) : Type 0 where
  pub rest : listed list (to_come comma s) ≡ listed [] (parts comma word)
  pub cuts : split_pattern s ≡ 44

module _ {list : List ℕ} {s : Split ℕ} {word : List ℕ} where
  pub no_number_yet : list ≡ [] → split_has_more s ≡ true → split_text s ≡ word → split_pattern s ≡ 44 → Sofar list s word
  no_number_yet e f g h = record { rest = rw (e, f, g) refl; cuts = h }

  module _ (old : Sofar list s word) where
    pub no_more : split_has_more s ≡ false → Ok list ≡ listed [] (parts comma word)
    no_more e = rw e at old.rest

    module _ (u : Split ℕ) (x : Bor (List ℕ)) (step : Next s x u) where
      turn : listed list (x.now ∷ to_come comma u) ≡ listed [] (parts comma word)
      turn = ap (listed list) (sym (took 44 (omega arith) s u x old.cuts step)) ∙ old.rest

      pub too_many : length list ≡ 8 → Err TooManyMuseums ≡ listed [] (parts comma word)
      too_many e = sym (cond-false (ltb (length list) 8) _ _ (le-ltb _ 8 (omega arith))) ∙ turn

      module _ (less : length list < 8) where
        number_next : and_then (number_of 255 x.now) (λ m. listed (list ++ m ∷ []) (to_come comma u)) ≡ listed [] (parts comma word)
        number_next = sym (cond-true (ltb (length list) 8) _ _ (lt-ltb _ 8 less)) ∙ turn

        pub no_number : (c : Cause) → Err c ≡ number_of 255 x.now → Err c ≡ listed [] (parts comma word)
        no_number c e = rw (sym e) at number_next

        pub one_more : (m : ℕ) (more : List ℕ) → Ok m ≡ number_of 255 x.now → more ≡ list ++ m ∷ [] → Sofar more u word
        one_more m more e f = record { rest = rw f (rw (sym e) at number_next); cuts = step.1.0 ∙ old.cuts }

-- ---- parts, and what is joined of them

parts_rejoined : (p : List ℕ) (ps : List (List ℕ)) → AllByRecursion (Free comma) (p ∷ ps) → parts comma (join_with_byte 44 (p ∷ ps)) ≡ p ∷ ps
parts_rejoined p [] h = parts_all comma p h.0
parts_rejoined p (q ∷ ps) h = parts_cut comma p 44 (join_with_byte 44 (q ∷ ps)) refl h.0 ∙ ap (λ l. p ∷ l) (parts_rejoined q ps h.1)

onto_some : (b : ℕ) (ps : List (List ℕ)) → 0 < length (onto b ps)
onto_some b [] = omega arith
onto_some b (p ∷ ps) = omega arith

parts_some : (bs : List ℕ) → 0 < length (parts comma bs)
parts_some [] = omega arith
parts_some (b ∷ bs) = cond_both (comma b) _ _ (λ ps. 0 < length ps) (λ e. omega arith) (λ e. onto_some b (parts comma bs))

rejoined_onto : (b : ℕ) (ps : List (List ℕ)) → join_with_byte 44 (onto b ps) ≡ b ∷ join_with_byte 44 ps
rejoined_onto b [] = refl
rejoined_onto b (p ∷ []) = refl
rejoined_onto b (p ∷ q ∷ ps) = refl

rejoined_cut : (ps : List (List ℕ)) → 0 < length ps → join_with_byte 44 ([] ∷ ps) ≡ 44 ∷ join_with_byte 44 ps
rejoined_cut [] l = absurd (omega arith)
rejoined_cut (p ∷ ps) l = refl

pub rejoined_parts : (bs : List ℕ) → join_with_byte 44 (parts comma bs) ≡ bs
rejoined_parts [] = refl
rejoined_parts (b ∷ bs) =
    cond_both (comma b) _ _ (λ ps. join_with_byte 44 ps ≡ b ∷ bs)
    (λ e. rejoined_cut (parts comma bs) (parts_some bs) ∙ ap (λ l. 44 ∷ l) (rejoined_parts bs) ∙ ap (λ c. c ∷ bs) (sym (eqb-true b 44 e)))
    (λ e. rejoined_onto b (parts comma bs) ∙ ap (λ l. b ∷ l) (rejoined_parts bs))

-- ---- the numbers of the parts

pub museum_small : (m : ℕ) → is_museum m ≡ true → m ≤ 200
museum_small m e = grind (arith, nat_tests)

comma_out : (b : ℕ) → Rattle.std.specs.Int.IsInRange 48 57 b → comma b ≡ false
comma_out b h = grind (arith, nat_tests)

commaless : (ps : List (List ℕ)) (ms : List ℕ) → WriteAll ps ms → all is_museum ms ≡ true → AllByRecursion (Free comma) ps
unfolding all
commaless [] [] h e = tt
commaless [] (m ∷ ms) h e = absurd h
commaless (p ∷ ps) [] h e = absurd h
commaless (p ∷ ps) (m ∷ ms) h e =
    let q = and_parts (is_museum m) _ e in
    (digits_free comma comma_out p (writes_digits p m (omega (arith, museum_small m q.0)) h.0), commaless ps ms h.1 q.1)

listed_takes : (ns : List ℕ) (ps : List (List ℕ)) (ms : List ℕ) → WriteAll ps ms → all is_museum ms ≡ true → length ns + length ms ≤ 8 → listed ns ps ≡ Ok (ns ++ ms)
unfolding all
listed_takes ns [] [] h e l = ap Ok (sym (append-nil ns))
listed_takes ns [] (m ∷ ms) h e l = absurd h
listed_takes ns (p ∷ ps) [] h e l = absurd h
listed_takes ns (p ∷ ps) (m ∷ ms) h e l =
    let q = and_parts (is_museum m) _ e in
    let low = museum_small m q.0 in
    cond-true (ltb (length ns) 8) _ _ (lt-ltb _ 8 (omega arith)) ∙ ap (λ r. and_then r (λ k. listed (ns ++ k ∷ []) ps)) (number_takes p m (omega arith) h.0 255 (omega arith))
    ∙ listed_takes (ns ++ m ∷ []) ps ms h.1 q.1 (omega (arith, length-append ns (m ∷ []))) ∙ ap Ok (append_assoc ns (m ∷ []) ms)

pub list_takes : (ps : List (List ℕ)) (ms : List ℕ) → WriteAll ps ms → all is_museum ms ≡ true → 0 < length ms → length ms ≤ 8 → listed [] (parts comma (join_with_byte 44 ps)) ≡ Ok ms
list_takes [] [] h e some l = absurd (omega arith)
list_takes [] (m ∷ ms) h e some l = absurd h
list_takes (p ∷ ps) ms h e some l = ap (listed []) (parts_rejoined p ps (commaless (p ∷ ps) ms h e)) ∙ listed_takes [] (p ∷ ps) ms h e (omega arith)

pub listed_told : (ns : List ℕ) (ps : List (List ℕ)) (rs : List ℕ) → listed ns ps ≡ Ok rs → (ms : List ℕ) × (rs ≡ ns ++ ms) × WriteAll ps ms
listed_told ns [] rs e = ([], cc (append-nil ns), tt)
listed_told ns (p ∷ ps) rs e =
    let c = cond_ok (ltb (length ns) 8) _ TooManyMuseums rs e in
    let n = then_ok (number_of 255 p) (λ m. listed (ns ++ m ∷ []) ps) rs c.1 in
    let r = listed_told (ns ++ n.0 ∷ []) ps rs n.2 in
    (n.0 ∷ r.0, r.1 ∙ append_assoc ns (n.0 ∷ []) r.0, ((number_told 255 p n.0 (omega arith) n.1).0, r.2))
