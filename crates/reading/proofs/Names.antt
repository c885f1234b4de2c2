-- Names one after the other, as the loop reads them. Assumes nothing.
use Rattle.std.proofs.Common.{◌≡◌, ℕ, ◌<◌, true, false, List, [], ◌∷◌, ◌++◌, map, length, Ok, Result, refl, sym, ap, ◌∙◌, append_assoc, append-nil, arith, Bor}
use Rattle.std.specs.Char.{char_set_contains}
use Rattle.std.specs.Str.Iter.{split_text, split_has_more, split_pattern}
use Rattle.std.specs.declared.str.Split.{Split}
use Rattle.std.proofs.lemmas.List.{map_push, nil_from_length}
use Rattle.texts.specs.declared.Cause.{Cause}
use Rattle.texts.specs.Cuts.{gap, full, words_of}
use Rattle.texts.proofs.Cuts.{IsList, NextWord, to_come, took_word}

-- ns are the names so far, and s has the parts to come
pub record Sofar {X : Type 0} (view : X → List ℕ) (ns : List X) (s : Split (List ℕ)) (text : List ℕ) : Type 0 where
  pub adds : map view ns ++ full (to_come gap s) ≡ words_of text
  pub cuts : IsList (split_pattern s) gap

module _ {X : Type 0} {view : X → List ℕ} {ns : List X} {s : Split (List ℕ)} {text : List ℕ} where
  pub no_name_yet : ns ≡ [] → split_has_more s ≡ true → split_text s ≡ text → split_pattern s ≡ 32 ∷ 9 ∷ 13 ∷ [] → Sofar view ns s text
  unfolding words_of
  no_name_yet e f g k = record { adds = rw (e, f, g) refl; cuts = λ c. ap (λ l. char_set_contains l c) k }

  module _ (old : Sofar view ns s text) where
    pub no_more : split_has_more s ≡ false → map view ns ≡ words_of text
    no_more e = sym (append-nil (map view ns)) ∙ (rw e at old.adds)

    module _ (u : Split (List ℕ)) (x : Bor (List ℕ)) (step : NextWord s x u) where
      turn : map view ns ++ full (x.now ∷ to_come gap u) ≡ words_of text
      turn = ap (λ ps. map view ns ++ full ps) (sym (took_word s u x old.cuts step)) ∙ old.adds

      pub empty_part : length x.now ≡ 0 → Sofar view ns u text
      empty_part e = record { adds = rw (nil_from_length x.now e) at turn; cuts = step.1.0 gap old.cuts }

      pub one_name : 0 < length x.now → (n : X) (ms : List X) → view n ≡ x.now → ms ≡ ns ++ n ∷ [] → Sofar view ms u text
      one_name l n ms e f = record {
        adds = ap (λ vs. vs ++ full (to_come gap u)) (ap (map view) f ∙ map_push view ns n) ∙ append_assoc (map view ns) (view n ∷ []) _ ∙ ap (λ w. map view ns ++ w ∷ full (to_come gap u)) e ∙ kept x.now l turn;
        cuts = step.1.0 gap old.cuts;
      }
        where
          kept : (w : List ℕ) → 0 < length w → map view ns ++ full (w ∷ to_come gap u) ≡ words_of text → map view ns ++ (w ∷ full (to_come gap u)) ≡ words_of text
          kept [] l h = absurd (omega arith)
          kept (b ∷ w) l h = h

pub same_ok : {X : Type 0} {x y : X} → ◌≡◌ {A = Result X Cause} (Ok x) (Ok y) → x ≡ y
same_ok e = cc
