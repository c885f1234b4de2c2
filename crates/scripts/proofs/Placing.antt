-- What a line says where it stands. Assumes nothing.
use Rattle.std.proofs.Common.{◌≡◌, ℕ, Bool, true, false, List, Some, Ok, Err, Option, Result, IsErrAnd, MatchResult, sym, ap, ◌∙◌, subst, refl}
use mathlib.Core.Bool.{beq}
use Rattle.std.specs.Option.{option_map}
use Rattle.std.specs.Result.{result_map_both}
use Rattle.std.proofs.lemmas.Bool.{cond-true, cond-false}
use Rattle.std.proofs.lemmas.Result.{err_from_is_err_and}
use Rattle.texts.specs.declared.Cause as text
use Rattle.trouble.specs.declared.Trouble.{Trouble}
use Rattle.trouble.specs.declared.Trouble.TheVariants.{Unreadable, NoMemory}
use Rattle.trouble.specs.Told.{Told}
use Rattle.reading.specs.Forms.{said_in}
use Rattle.statements.specs.Said.{Said}
use Rattle.statements.specs.Views.{stated}
use Rattle.statements.specs.declared.Statement.{Statement}
use Rattle.scripts.specs.declared.Cause.{Cause}
use Rattle.scripts.specs.declared.Cause.TheVariants.{HouseFirst, Words}
use Rattle.scripts.specs.Rules.{alone, opens, misplaced, placed, sense}
use Rattle.scripts.specs.Views.{in_words}

-- q is r, which the statement of a line's code was read as, with its cause in the words of scripts
pub renamed : {P : Trouble text.Cause → Trouble Cause → Type 0} (code : List ℕ) (r : Result (Option Statement) (Trouble text.Cause)) (q : Result (Option Statement) (Trouble Cause)) → MatchResult r (λ x. q ≡ Ok x) (λ e. IsErrAnd q (P e)) → ((e : Trouble text.Cause) (t : Trouble Cause) → P e t → t ≡ in_words e)
    → Told (option_map stated) r (said_in code) → Told (option_map stated) q (alone code)
unfolding alone
renamed code (Ok x) q m is h = subst (λ k. Told (option_map stated) k (result_map_both (λ o. o) Words (said_in code))) (sym m) (ap (result_map_both (λ o. o) Words) h)
renamed code (Err e) q m is h =
    let p = err_from_is_err_and q m in subst (λ k. Told (option_map stated) k (result_map_both (λ o. o) Words (said_in code))) (sym (p.1 ∙ ap Err (is e p.0 p.2))) (by e h)
  where
    by : (e : Trouble text.Cause) → Told {X = Option Statement} (option_map stated) (Err e) (said_in code) → Told {X = Option Statement} (option_map stated) (Err (in_words e)) (result_map_both (λ o. o) Words (said_in code))
    by (Unreadable c) h = ap (result_map_both (λ o. o) Words) h
    by NoMemory h = tt

-- b says whether the statement opens the house
tested : (begun b : Bool) (s : Said) → b ≡ opens s → beq b begun ≡ misplaced begun s
tested begun b s e = ap (λ x. beq x begun) e ∙ by begun (opens s) refl
  where
    by : (t o : Bool) → opens s ≡ o → beq (opens s) t ≡ misplaced t s
    by true true f = rw f
    by true false f = rw f
    by false true f = rw f
    by false false f = rw f

module _ (begun : Bool) (code : List ℕ) (s : Said) (e : Ok (Some s) ≡ alone code) (b : Bool) (is : b ≡ opens s) where
  pub out_of_place : beq b begun ≡ true → Err HouseFirst ≡ sense begun code
  out_of_place h = sym (cond-true (misplaced begun s) _ _ (sym (tested begun b s is) ∙ h)) ∙ ap (placed begun) e

  pub in_place : beq b begun ≡ false → Ok (Some s) ≡ sense begun code
  in_place h = sym (cond-false (misplaced begun s) _ _ (sym (tested begun b s is) ∙ h)) ∙ ap (placed begun) e
