-- What is read of a line, each way one lemma. Assumes nothing.
use Rattle.std.proofs.Common.{◌≡◌, ℕ, ◌/◌, ◌%◌, Bool, true, false, ◌&&◌, List, [], ◌∷◌, length, Some, None, Ok, Err, Option, sym, refl, ap, ◌∙◌}
use Rattle.std.specs.Bool.{then_some}
use Rattle.std.specs.Option.{ok_or}
use Rattle.std.proofs.lemmas.Bool.{and_parts, and_from, ne_eqb}
use Rattle.narrow.specs.Can.{same_bytes}
use Rattle.narrow.proofs.Can.{same_bytes_lem}
use Rattle.narrow.proofs.Rows.{contradiction}
use Rattle.numbers.proofs.Bytes.{two_back}
use Rattle.parts.specs.Limits.{MuseumIn, DayIn, MinuteIn, PersonsUpTo, NameIs, LineView, ALimit, AnElse, is_line}
use Rattle.lines.specs.declared.Fault.TheVariants.{Shape, Unreadable}
use Rattle.lines.specs.Format.{line_bytes}
use Rattle.lines.specs.Reading.{line_guess, if_written, line_of}

if_written_is : (bs : List ℕ) (v : LineView) → is_line v ≡ true → bs ≡ line_bytes v → if_written bs (Some v) ≡ Ok v
if_written_is bs v can e = rw (and_from (is_line v) (same_bytes bs (line_bytes v)) can ((same_bytes_lem bs (line_bytes v)).1 e))

if_written_lem : (bs : List ℕ) (v w : LineView) → if_written bs (Some v) ≡ Ok w → (v ≡ w) × (is_line v ≡ true) × (bs ≡ line_bytes v)
if_written_lem bs v w = go (is_line v && same_bytes bs (line_bytes v)) refl
  where
    go : (b : Bool) → (is_line v && same_bytes bs (line_bytes v)) ≡ b → ok_or (then_some b v) Unreadable ≡ Ok w → (v ≡ w) × (is_line v ≡ true) × (bs ≡ line_bytes v)
    go true e h = let both = and_parts (is_line v) (same_bytes bs (line_bytes v)) e in (cc, both.0, (same_bytes_lem bs (line_bytes v)).0 both.1)
    go false e h = contradiction (cc)

-- the guess at what was written is that
pub guess_back : (v : LineView) → (kind : ℕ) (content : List ℕ) → kind ∷ content ≡ line_bytes v → line_guess kind content ≡ Some v
guess_back (ALimit (MuseumIn ms)) kind content e = let k : kind ≡ 1 = cc in let c : content ≡ length ms ∷ ms = cc in rw (k, c)
guess_back (ALimit (DayIn a b)) kind content e =
    let k : kind ≡ 2 = cc in let c : content ≡ a / 256 ∷ a % 256 ∷ b / 256 ∷ b % 256 ∷ [] = cc in rw (k, c, two_back a, two_back b)
guess_back (ALimit (MinuteIn a b)) kind content e =
    let k : kind ≡ 3 = cc in let c : content ≡ a / 256 ∷ a % 256 ∷ b / 256 ∷ b % 256 ∷ [] = cc in rw (k, c, two_back a, two_back b)
guess_back (ALimit (PersonsUpTo n)) kind content e = let k : kind ≡ 4 = cc in let c : content ≡ n ∷ [] = cc in rw (k, c)
guess_back (ALimit (NameIs ls)) kind content e = let k : kind ≡ 5 = cc in let c : content ≡ length ls ∷ ls = cc in rw (k, c)
guess_back (AnElse n) kind content e = let k : kind ≡ 6 = cc in let c : content ≡ n / 256 ∷ n % 256 ∷ [] = cc in rw (k, c, two_back n)

-- and there is none for other kinds
pub no_guess_at : (kind : ℕ) (content : List ℕ) → (kind ≡ 1 → ⊥) → (kind ≡ 2 → ⊥) → (kind ≡ 3 → ⊥) → (kind ≡ 4 → ⊥) → (kind ≡ 5 → ⊥) → (kind ≡ 6 → ⊥) →
    line_guess kind content ≡ None
no_guess_at kind content a b c d e f =
    rw (ne_eqb kind 1 a, ne_eqb kind 2 b, ne_eqb kind 3 c, ne_eqb kind 4 d, ne_eqb kind 5 e, ne_eqb kind 6 f)

no_bytes : (v : LineView) → [] ≡ line_bytes v → ⊥
no_bytes (ALimit (MuseumIn ms)) e = contradiction (cc)
no_bytes (ALimit (DayIn a b)) e = contradiction (cc)
no_bytes (ALimit (MinuteIn a b)) e = contradiction (cc)
no_bytes (ALimit (PersonsUpTo n)) e = contradiction (cc)
no_bytes (ALimit (NameIs ls)) e = contradiction (cc)
no_bytes (AnElse n) e = contradiction (cc)

-- a possible line is read from its bytes
pub line_read_is : (v : LineView) (bs : List ℕ) → is_line v ≡ true → bs ≡ line_bytes v → line_of bs ≡ Ok v
unfolding line_of
line_read_is v [] can e = absurd (no_bytes v e)
line_read_is v (kind ∷ content) can e = rw (guess_back v kind content e) (if_written_is (kind ∷ content) v can e)

-- what is read is possible, and written as just these bytes
pub line_read_only : (bs : List ℕ) (v : LineView) → line_of bs ≡ Ok v → (is_line v ≡ true) × (bs ≡ line_bytes v)
unfolding line_of
line_read_only [] v h = contradiction (cc)
line_read_only (kind ∷ content) v h = go (line_guess kind content) h
  where
    go : (o : Option LineView) → if_written (kind ∷ content) o ≡ Ok v → (is_line v ≡ true) × (kind ∷ content ≡ line_bytes v)
    go None h = contradiction (cc)
    go (Some g) h = let r = if_written_lem (kind ∷ content) g v h in (ap is_line (sym r.0) ∙ r.1, r.2 ∙ ap line_bytes r.0)

-- a known kind is not read, if what it would have to be is not written as these bytes
pub line_not_read : (kind : ℕ) (content : List ℕ) (g : LineView) → line_guess kind content ≡ Some g →
    (is_line g ≡ true → kind ∷ content ≡ line_bytes g → ⊥) → line_of (kind ∷ content) ≡ Err Unreadable
unfolding line_of
line_not_read kind content g e none = rw e (go (is_line g && same_bytes (kind ∷ content) (line_bytes g)) refl)
  where
    go : (b : Bool) → (is_line g && same_bytes (kind ∷ content) (line_bytes g)) ≡ b → ok_or (then_some b g) Unreadable ≡ Err Unreadable
    go true h = let both = and_parts (is_line g) (same_bytes (kind ∷ content) (line_bytes g)) h in
        absurd (none both.0 ((same_bytes_lem (kind ∷ content) (line_bytes g)).0 both.1))
    go false h = refl

pub line_no_kind : (kind : ℕ) (content : List ℕ) → line_guess kind content ≡ None → line_of (kind ∷ content) ≡ Err Shape
unfolding line_of
line_no_kind kind content e = rw e
