-- Words that are a line are read as that line. Assumes nothing.
use Rattle.std.proofs.Common.{◌≡◌, ℕ, ◌<◌, ◌≤◌, true, cond, leb, List, [], length, Ok, Err, Result, sym, refl, ap, ◌∙◌, arith}
use Rattle.std.specs.List.{join_with_byte}
use Rattle.std.proofs.lemmas.Bool.{cond-true, and_parts, leb-true}
use Rattle.narrow.specs.Rows.{all}
use Rattle.parts.specs.Limits.{MuseumIn, DayIn, MinuteIn, PersonsUpTo, NameIs, LineView, ALimit, AnElse, is_line, is_museums, is_name, is_letter, longest_name, last_key, within}
use Rattle.texts.specs.declared.Cause.{Cause}
use Rattle.texts.specs.declared.Cause.TheVariants.{NoSuchKey}
use Rattle.words.specs.Lines.{known_museums, museums_of, name_of, key_of, limit_of, line_of}
use Rattle.texts.specs.Numerals.{Writes}
use Rattle.words.specs.Means.{WriteAll, Means, museums_are, days_are, minutes_are, persons_are, name_is, no_name, key_is, Told}
use Rattle.texts.specs.Results.{and_then, and_is}
use Rattle.texts.proofs.Digits.{number_takes}
use Rattle.words.proofs.Listing.{list_takes}
use Rattle.words.proofs.Spans.{span_takes}
use Rattle.texts.proofs.Steps.{err_ok}
use Rattle.words.proofs.Telling.{line_told}

museums_takes : (ps : List (List ℕ)) (ms : List ℕ) → WriteAll ps ms → is_museums ms ≡ true → museums_of (join_with_byte 44 ps) ≡ Ok ms
unfolding museums_of
museums_takes ps ms h e =
    let a = and_parts (within 1 8 (length ms)) _ e in
    let b = and_parts (leb 1 (length ms)) _ a.0 in
    let some : 0 < length ms = leb-true 1 (length ms) b.0 in
    ap (λ r. and_then r known_museums) (list_takes ps ms h a.1 some (leb-true (length ms) 8 b.1)) ∙ cond-true (is_museums ms) _ _ e

name_takes : (ls : List ℕ) → is_name ls ≡ true → name_of ls ≡ Ok ls
unfolding name_of
name_takes ls e =
    let a = and_parts (leb (length ls) longest_name) _ e in cond-true (leb (length ls) longest_name) _ _ a.0 ∙ cond-true (all is_letter ls) _ _ a.1

key_takes : (a : List ℕ) (k : ℕ) → Writes a k → leb k last_key ≡ true → key_of a ≡ Ok k
unfolding key_of
key_takes a k h e =
    let low : k ≤ 4095 = leb-true k 4095 e in
    ap (λ r. and_then r (λ n. cond (leb n last_key) (Ok n) (Err NoSuchKey))) (number_takes a k (omega arith) h 65535 (omega arith)) ∙ cond-true (leb k last_key) _ _ e

pub line_takes : (ws : List (List ℕ)) (v : LineView) → Means ws v → is_line v ≡ true → line_of ws ≡ Ok v
unfolding line_of limit_of
line_takes ws v (museums_are ps ms h) e = ap (λ r. and_is (and_is r MuseumIn) ALimit) (museums_takes ps ms h e)
line_takes ws v (days_are a b m n p q) e = ap (λ r. and_is (and_is r (λ s. DayIn s.0 s.1)) ALimit) (span_takes a b m n p q e)
line_takes ws v (minutes_are a b m n p q) e = ap (λ r. and_is (and_is r (λ s. MinuteIn s.0 s.1)) ALimit) (span_takes a b m n p q e)
line_takes ws v (persons_are a n h) e =
    let low : n ≤ 255 = leb-true n 255 e in ap (λ r. and_is (and_is r PersonsUpTo) ALimit) (number_takes a n (omega arith) h 255 low)
line_takes ws v (name_is ls) e = ap (λ r. and_is (and_is r NameIs) ALimit) (name_takes ls e)
line_takes ws v no_name e = ap (λ r. and_is (and_is r NameIs) ALimit) (name_takes [] e)
line_takes ws v (key_is a k h) e = ap (λ r. and_is r AnElse) (key_takes a k h e)

-- what is read is so
pub told : (ws : List (List ℕ)) → Told ws (line_of ws)
told ws = by (line_of ws) refl
  where
    by : (r : Result LineView Cause) → line_of ws ≡ r → Told ws r
    by (Ok v) e = line_told ws v e
    by (Err c) e = λ v m i. err_ok c v (sym e ∙ line_takes ws v m i)
