use Rattle.std.proofs.Common.{◌≡◌, ℕ, List, IsErrAnd, Ok, Err, codes, Result, sym, ap, ◌∙◌, subst}
use Rattle.parts.specs.Limits.{WishView}
use Rattle.wishes.specs.declared.wish.RawWish.{RawWish}
use Rattle.texts.specs.declared.Cause.{Cause}
use Rattle.texts.specs.Cuts.{words_of}
use Rattle.texts.specs.Results.{and_then}
use Rattle.words.specs.Means.{WishTold}
use Rattle.words.specs.Wishes.{wish_parsed, wish_in, field_of, with_day, wish_of}
use Rattle.texts.proofs.Steps.{exits, so, no, last_so, last_no}
use Rattle.words.proofs.Wished.{told}
use Rattle.words.proofs.parse_wish.Goals as goal

-- what is read so
abbrev Both : List ℕ → Result WishView Cause → Type 0
Both text r = record { value : r ≡ wish_in text; told : WishTold (words_of text) r }

-- the wish, part by part, and the exit of each `?`
module _ (text : List ℕ) where
  both : (r : Result WishView Cause) → r ≡ and_then (field_of 255 (codes "museum") (words_of text)) (λ p. with_day p.0 p.1) → Both text r
  unfolding wish_of
  both r e = record { value = e; told = subst (WishTold (words_of text)) (sym e) (told (words_of text)) }

  exit : (r : Result RawWish Cause) {c : Cause} → IsErrAnd r (λ d. d ≡ c) → Err c ≡ and_then (field_of 255 (codes "museum") (words_of text)) (λ p. with_day p.0 p.1) → Both text (wish_parsed r)
  exit r h e = both _ (exits r _ _ h ∙ e)

pub returns-in_err-museum : goal.returns-in_err-museum
returns-in_err-museum c = exit _ _ c.from_residual.ensures.1 (no _ c.in_err-museum.ensures)

pub returns-in_err-day : goal.returns-in_err-day
returns-in_err-day c = exit _ _ c.from_residual-in_err-day.ensures.1 (so _ c.in_ok-museum.ensures (no _ c.in_err-day.ensures))

pub returns-in_err-minute : goal.returns-in_err-minute
returns-in_err-minute c = exit _ _ c.from_residual-in_err-minute.ensures.1 (so _ c.in_ok-museum.ensures (so _ c.in_ok-day.ensures (no _ c.in_err-minute.ensures)))

pub returns-in_err-persons : goal.returns-in_err-persons
returns-in_err-persons c =
    exit _ _ c.from_residual-in_err-persons.ensures.1 (so _ c.in_ok-museum.ensures (so _ c.in_ok-day.ensures (so _ c.in_ok-minute.ensures (no _ c.in_err-persons.ensures))))

pub returns-in_err-name_field : goal.returns-in_err-name_field
returns-in_err-name_field c =
    exit _ _ c.from_residual-in_err-name_field.ensures.1
    (so _ c.in_ok-museum.ensures (so _ c.in_ok-day.ensures (so _ c.in_ok-minute.ensures (so _ c.in_ok-persons.ensures (last_no _ c.in_err-name_field.ensures)))))

pub returns : goal.returns
returns c =
    both _ _ (so _ c.in_ok-museum.ensures (so _ c.in_ok-day.ensures (so _ c.in_ok-minute.ensures (so _ c.in_ok-persons.ensures (last_so _ (ap Ok c.as_bytes-name.ensures.value ∙ c.in_ok-name_field.ensures))))))
