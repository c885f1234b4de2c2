-- What lines mean together, and that none is the message of a tie. Assumes nothing.
use Rattle.std.proofs.Common.{◌≡◌, ℕ, Bool, true, false, ◌&&◌, ◌≢◌, ◌⊎◌, List, [], ◌∷◌, ◌++◌, length, is_ok, Ok, Err, Result, sym, refl, ap, ◌∙◌, inl, inr, arith}
use mathlib.Core.List.Memᴰ
use mathlib.Core.List.{Memᴰ}
use Rattle.std.proofs.lemmas.Bool.{and_parts}
use Rattle.narrow.specs.Can.{same_bytes}
use Rattle.narrow.specs.Policy.{met, all_met}
use Rattle.narrow.proofs.Can.{same_bytes_lem}
use Rattle.narrow.proofs.Rows.{contradiction, all_at, all_from}
use Rattle.narrow.proofs.Lets.{all_met_front}
use Rattle.parts.specs.Limits.{MuseumIn, DayIn, MinuteIn, PersonsUpTo, NameIs, LineView, ALimit, AnElse}
use Rattle.lines.specs.declared.Fault.{Fault}
use Rattle.lines.specs.Format.{line_bytes}
use Rattle.lines.specs.Reading.{line_of}
use Rattle.lines.specs.Meaning.{holds_for, says}
use Rattle.lines.specs.Laws.{LinesBack, LinesExact, LinesNoTie, NamesApart, LineTwice}
use Rattle.lines.proofs.Decoding.{line_read_is, line_read_only}

pub lines_back : LinesBack
lines_back v can = line_read_is v (line_bytes v) can refl

pub lines_exact : LinesExact
lines_exact = line_read_only

-- of the lines only that of minutes begins with a 3, and it has 5 bytes
no_tie : (v : LineView) (rest : List ℕ) → line_bytes v ≡ 3 ∷ rest → length rest ≢ 32
no_tie (ALimit (MuseumIn ms)) rest e = λ _. contradiction (let k : ◌≡◌ {A = ℕ} 1 3 = cc in omega arith)
no_tie (ALimit (DayIn a b)) rest e = λ _. contradiction (let k : ◌≡◌ {A = ℕ} 2 3 = cc in omega arith)
no_tie (ALimit (MinuteIn a b)) rest e = λ long. omega (arith, ap length e)
no_tie (ALimit (PersonsUpTo n)) rest e = λ _. contradiction (let k : ◌≡◌ {A = ℕ} 4 3 = cc in omega arith)
no_tie (ALimit (NameIs ls)) rest e = λ _. contradiction (let k : ◌≡◌ {A = ℕ} 5 3 = cc in omega arith)
no_tie (AnElse k) rest e = λ _. contradiction (let k : ◌≡◌ {A = ℕ} 6 3 = cc in omega arith)

pub lines_no_tie : LinesNoTie
lines_no_tie bs h rest e = go (line_of bs) refl h
  where
    go : (r : Result LineView Fault) → line_of bs ≡ r → is_ok r ≡ true → length rest ≢ 32
    go (Ok v) is h = no_tie v rest (sym (line_read_only bs v is).1 ∙ e)
    go (Err f) is h = contradiction (cc)

pub names_apart : NamesApart
names_apart a b apart w = go (holds_for (NameIs a) w && holds_for (NameIs b) w) refl
  where
    go : (t : Bool) → (holds_for (NameIs a) w && holds_for (NameIs b) w) ≡ t → t ≡ false
    go true h =
        let both = and_parts (same_bytes a w.name) (same_bytes b w.name) h in
        absurd (apart ((same_bytes_lem a w.name).0 both.0 ∙ sym ((same_bytes_lem b w.name).0 both.1)))
    go false h = refl

pub line_twice : LineTwice
line_twice w served ls l m = go (all_met (says w) served (ls ++ l ∷ [])) (all_met (says w) served ls) refl refl
  where
    test : List ℕ → Bool
    test x = met served (says w x)

    here : all_met (says w) served ls ≡ true → (x : List ℕ) → Memᴰ x (ls ++ l ∷ []) → test x ≡ true
    here h x k = step (Memᴰ.append_cases ls k)
      where
        last : (x ≡ l) ⊎ Memᴰ x [] → test x ≡ true
        last (inl e) = ap test e ∙ all_at test m h
        last (inr n) = absurd (Memᴰ.not-nil n)

        step : Memᴰ x ls ⊎ Memᴰ x (l ∷ []) → test x ≡ true
        step (inl n) = all_at test n h
        step (inr n) = last (Memᴰ.cases_cons n)

    go : (a b : Bool) → all_met (says w) served (ls ++ l ∷ []) ≡ a → all_met (says w) served ls ≡ b → a ≡ b
    go true true p q = refl
    go true false p q = sym (sym q ∙ all_met_front (says w) served (ls ++ l ∷ []) ls (l ∷ []) refl p)
    go false true p q = sym p ∙ all_from test (ls ++ l ∷ []) (here q)
    go false false p q = refl
