-- Lines with semicolons between them, as the loop reads them. Assumes nothing.
use Rattle.std.proofs.Common.{◌≡◌, ℕ, true, false, List, [], ◌∷◌, ◌++◌, map, Ok, Err, Result, sym, refl, ap, ◌∙◌, append_assoc, append-nil, arith, Bor}
use Rattle.std.specs.Str.Iter.{split_text, split_has_more, split_pattern}
use Rattle.std.specs.declared.str.Split.{Split}
use Rattle.std.proofs.lemmas.List.{map_push}
use Rattle.lines.specs.declared.Line.{Line}
use Rattle.parts.specs.Limits.{LineView}
use Rattle.lines.specs.Views.{line_view}
use Rattle.texts.specs.declared.Cause.{Cause}
use Rattle.texts.specs.Cuts.{parts}
use Rattle.texts.specs.Results.{and_then, and_is}
use Rattle.texts.proofs.Cuts.{Next, to_come, took}
use Rattle.words.specs.Lines.{line_in}
use Rattle.making.specs.Cuts.{semicolon, every, lines_in}

-- ls are the lines so far, and s has the parts to come
pub record Sofar (ls : List Line) (s : Split ℕ) (text : List ℕ) : Type 0 where
  pub rest : and_is (every (to_come semicolon s)) (λ ms. map line_view ls ++ ms) ≡ lines_in text
  pub cuts : split_pattern s ≡ 59

onto_none : (r : Result (List LineView) Cause) → and_is r (λ ms. [] ++ ms) ≡ r
onto_none (Ok ms) = refl
onto_none (Err c) = refl

onto_more : (ls : List LineView) (l : LineView) (r : Result (List LineView) Cause) → and_is r (λ ms. (ls ++ l ∷ []) ++ ms) ≡ and_is (and_is r (λ ms. l ∷ ms)) (λ ms. ls ++ ms)
onto_more ls l (Ok ms) = ap Ok (append_assoc ls (l ∷ []) ms)
onto_more ls l (Err c) = refl

module _ {ls : List Line} {s : Split ℕ} where
  pub no_line_yet : (text : List ℕ) → ls ≡ [] → split_has_more s ≡ true → split_text s ≡ text → split_pattern s ≡ 59 → Sofar ls s text
  unfolding lines_in
  no_line_yet text e f g h = record { rest = rw (e, f, g) (onto_none (every (parts semicolon text))); cuts = h }

  module _ {text : List ℕ} (old : Sofar ls s text) where
    pub no_more : split_has_more s ≡ false → Ok (map line_view ls) ≡ lines_in text
    no_more e = ap Ok (sym (append-nil (map line_view ls))) ∙ (rw e at old.rest)

    module _ (u : Split ℕ) (x : Bor (List ℕ)) (step : Next s x u) where
      turn : and_is (and_then (line_in x.now) (λ l. and_is (every (to_come semicolon u)) (λ ms. l ∷ ms))) (λ ms. map line_view ls ++ ms) ≡ lines_in text
      turn = ap (λ ps. and_is (every ps) (λ ms. map line_view ls ++ ms)) (sym (took 59 (omega arith) s u x old.cuts step)) ∙ old.rest

      pub no_line : {c : Cause} → Err c ≡ line_in x.now → Err c ≡ lines_in text
      no_line e = ap (λ r. and_is (and_then r (λ l. and_is (every (to_come semicolon u)) (λ ms. l ∷ ms))) (λ ms. map line_view ls ++ ms)) e ∙ turn

      pub one_more : (l : Line) (ms : List Line) → Ok (line_view l) ≡ line_in x.now → ms ≡ ls ++ l ∷ [] → Sofar ms u text
      one_more l ms e f = record {
        rest = ap (λ ks. and_is (every (to_come semicolon u)) (λ ns. ks ++ ns)) (ap (map line_view) f ∙ map_push line_view ls l)
            ∙ onto_more (map line_view ls) (line_view l) (every (to_come semicolon u))
            ∙ ap (λ r. and_is (and_then r (λ k. and_is (every (to_come semicolon u)) (λ ns. k ∷ ns))) (λ ns. map line_view ls ++ ns)) e ∙ turn;
        cuts = step.1.0 ∙ old.cuts;
      }
