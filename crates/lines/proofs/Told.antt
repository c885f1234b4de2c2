-- What is told of bytes, against the format in its own words. Assumes nothing.
use Rattle.std.proofs.Common.{◌≡◌, ℕ, zero, suc, ◌/◌, ◌%◌, ◌<◌, ◌≤◌, Bool, true, false, ◌&&◌, leb, ◌⊎◌, List, [], ◌∷◌, length, get_or, drop, Some, None, Option, sym, refl, ap, ◌∙◌, subst, inl, inr, arith}
use Rattle.std.specs.Bool.{then_some}
use Rattle.std.specs.Option.{ok_or}
use Rattle.std.proofs.lemmas.Bool.{and_parts, and_from, leb-true, le-leb, both_ways, cases_lt}
use Rattle.narrow.specs.Rows.{all}
use Rattle.narrow.specs.Can.{same_bytes}
use Rattle.narrow.proofs.Can.{same_bytes_lem}
use Rattle.narrow.proofs.Rows.{contradiction}
use Rattle.numbers.specs.Bytes.{two}
use Rattle.numbers.specs.Places.{byte, number, AreBytes}
use Rattle.numbers.proofs.Bytes.{two_in_front, all_places}
use Rattle.parts.specs.Limits.{MuseumIn, DayIn, MinuteIn, PersonsUpTo, NameIs, LineView, ALimit, AnElse, within, is_museum, is_letter, is_span, is_line}
use Rattle.wishes.specs.Format.{counted_bytes}
use Rattle.lines.specs.declared.Fault.{Fault}
use Rattle.lines.specs.declared.Fault.TheVariants.{Shape, Unreadable, TooMany, Range}
use Rattle.lines.specs.Format.{span_bytes, line_bytes}
use Rattle.lines.specs.Reading.{line_guess, if_written, line_of}
use Rattle.lines.specs.Shapes.{CountedLine, SpanLine, LineBytes, of_museums, of_days, of_minutes, of_persons, of_name, of_else, KnownKind, HasFault, Tells}
use Rattle.lines.specs.Laws.{FormatTells}
use Rattle.lines.proofs.Decoding.{guess_back, no_guess_at}

-- a test of each element, place by place
all_from_places : (f : ℕ → Bool) (xs : List ℕ) → ((i : ℕ) → i < length xs → f (get_or xs i 0) ≡ true) → all f xs ≡ true
unfolding all
all_from_places f [] h = refl
all_from_places f (x ∷ xs) h = and_from (f x) (all f xs) (h 0 (omega arith)) (all_from_places f xs (λ i l. h (suc i) (omega arith)))

all_at_place : (f : ℕ → Bool) (xs : List ℕ) (i : ℕ) → all f xs ≡ true → i < length xs → f (get_or xs i 0) ≡ true
unfolding all
all_at_place f [] i h l = absurd (omega arith)
all_at_place f (x ∷ xs) zero h l = (and_parts (f x) (all f xs) h).0
all_at_place f (x ∷ xs) (suc i) h l = all_at_place f xs i (and_parts (f x) (all f xs) h).1 (omega arith)

within_is : (low high n : ℕ) → low ≤ n → n ≤ high → within low high n ≡ true
within_is low high n a b = and_from (leb low n) (leb n high) (le-leb low n a) (le-leb n high b)

is_within : (low high n : ℕ) → within low high n ≡ true → (low ≤ n) × (n ≤ high)
is_within low high n h = let both = and_parts (leb low n) (leb n high) h in (leb-true low n both.0, leb-true n high both.1)

-- what a counted line holds
record Held (kind least most low high : ℕ) (bs : List ℕ) : Type 0 where
  xs : List ℕ
  whole : bs ≡ kind ∷ counted_bytes xs
  enough : least ≤ length xs
  not_more : length xs ≤ most
  each : all (within low high) xs ≡ true

held : (kind least most low high : ℕ) (bs : List ℕ) → CountedLine kind least most low high bs → Held kind least most low high bs
held kind least most low high [] c = absurd (omega (arith, c.long))
held kind least most low high (k ∷ []) c = absurd (omega (arith, c.long))
held kind least most low high (k ∷ n ∷ xs) c =
    let long : n ≡ length xs = omega (arith, c.long) in
    let k-is = c.kind_is in
    record {
      xs = xs;
      whole = cc;
      enough = omega (arith, c.enough);
      not_more = omega (arith, c.not_more);
      each = all_from_places (within low high) xs
          (λ i l. let h = c.each (suc (suc i)) (omega arith) (omega arith) in within_is low high (get_or xs i 0) h.0 h.1);
    }

counted : (kind least most low high : ℕ) (xs : List ℕ) → least ≤ length xs → length xs ≤ most → all (within low high) xs ≡ true →
    CountedLine kind least most low high (kind ∷ counted_bytes xs)
counted kind least most low high xs enough not_more h =
    record { kind_is = refl; enough = enough; not_more = not_more; long = omega arith; each = each }
  where
    each : (i : ℕ) → 2 ≤ i → i < length (kind ∷ counted_bytes xs) → (low ≤ byte (kind ∷ counted_bytes xs) i) × (byte (kind ∷ counted_bytes xs) i ≤ high)
    each zero a b = absurd (omega arith)
    each (suc zero) a b = absurd (omega arith)
    each (suc (suc i)) a b = is_within low high (get_or xs i 0) (all_at_place (within low high) xs i h (omega arith))

Written : List ℕ → Type 0
Written bs = (v : LineView) × (is_line v ≡ true) × (bs ≡ line_bytes v)

-- a span by its bytes
span_of : (kind : ℕ) (bs : List ℕ) → AreBytes bs → SpanLine kind bs → (is_span (number bs 1) (number bs 3) ≡ true) × (bs ≡ kind ∷ span_bytes (number bs 1) (number bs 3))
span_of kind bs bytes s =
    let from = two_in_front (byte bs 1) (byte bs 2) [] (bytes 2) in
    let to = two_in_front (byte bs 3) (byte bs 4) [] (bytes 4) in
    let k = s.kind_is in
    let whole = all_places 5 bs s.long in
    (and_from (leb (number bs 1) (number bs 3)) (leb (number bs 3) 65535) (le-leb (number bs 1) (number bs 3) s.ordered) (le-leb (number bs 3) 65535 (omega (arith, bytes 3, bytes 4))), cc)

-- bytes of the format's shapes are those of a line that can be
shape_written : (bs : List ℕ) → AreBytes bs → LineBytes bs → Written bs
unfolding Written
shape_written bs bytes (of_museums c) =
    let h = held 1 1 8 1 200 bs c in
    (ALimit (MuseumIn h.xs), and_from (within 1 8 (length h.xs)) (all is_museum h.xs) (within_is 1 8 (length h.xs) h.enough h.not_more) h.each, h.whole)
shape_written bs bytes (of_name c) =
    let h = held 5 0 32 97 122 bs c in
    (ALimit (NameIs h.xs), and_from (leb (length h.xs) 32) (all is_letter h.xs) (le-leb (length h.xs) 32 h.not_more) h.each, h.whole)
shape_written bs bytes (of_days s) = let h = span_of 2 bs bytes s in (ALimit (DayIn (number bs 1) (number bs 3)), h.0, h.1)
shape_written bs bytes (of_minutes s) = let h = span_of 3 bs bytes s in (ALimit (MinuteIn (number bs 1) (number bs 3)), h.0, h.1)
shape_written bs bytes (of_persons k long) = let whole = all_places 2 bs long in (ALimit (PersonsUpTo (byte bs 1)), le-leb (byte bs 1) 255 (omega (arith, bytes 1)), cc)
shape_written bs bytes (of_else k long small) =
    let whole = all_places 3 bs long in
    let key = two_in_front (byte bs 1) (byte bs 2) [] (bytes 2) in
    (AnElse (number bs 1), le-leb (number bs 1) 4095 small, cc)

still_ordered : (a b : ℕ) → is_span a b ≡ true → two (a / 256) (a % 256) ≤ two (b / 256) (b % 256)
still_ordered a b h = let le = leb-true a b (and_parts (leb a b) (leb b 65535) h).0 in omega arith

-- and the bytes of a line that can be have one of the shapes
written_shape : (v : LineView) → is_line v ≡ true → LineBytes (line_bytes v)
written_shape (ALimit (MuseumIn ms)) can =
    let both = and_parts (within 1 8 (length ms)) (all is_museum ms) can in
    let n = is_within 1 8 (length ms) both.0 in
    of_museums (counted 1 1 8 1 200 ms n.0 n.1 both.1)
written_shape (ALimit (NameIs ls)) can =
    let both = and_parts (leb (length ls) 32) (all is_letter ls) can in
    of_name (counted 5 0 32 97 122 ls (omega arith) (leb-true (length ls) 32 both.0) both.1)
written_shape (ALimit (DayIn a b)) can = of_days (record { kind_is = refl; long = refl; ordered = still_ordered a b can })
written_shape (ALimit (MinuteIn a b)) can = of_minutes (record { kind_is = refl; long = refl; ordered = still_ordered a b can })
written_shape (ALimit (PersonsUpTo n)) can = of_persons refl refl
written_shape (AnElse k) can = of_else refl refl (let le = leb-true k 4095 can in omega arith)

shape_known : (bs : List ℕ) → LineBytes bs → KnownKind bs
shape_known bs (of_museums c) = (omega (arith, c.long), omega (arith, c.kind_is), omega (arith, c.kind_is))
shape_known bs (of_days s) = (omega (arith, s.long), omega (arith, s.kind_is), omega (arith, s.kind_is))
shape_known bs (of_minutes s) = (omega (arith, s.long), omega (arith, s.kind_is), omega (arith, s.kind_is))
shape_known bs (of_persons k long) = (omega arith, omega arith, omega arith)
shape_known bs (of_name c) = (omega (arith, c.long), omega (arith, c.kind_is), omega (arith, c.kind_is))
shape_known bs (of_else k long small) = (omega arith, omega arith, omega arith)

-- there is a guess just for the kinds of lines
no_guess : (kind : ℕ) (content : List ℕ) → line_guess kind content ≡ None → 1 ≤ kind → kind ≤ 6 → ⊥
no_guess kind content h low high =
    let a = not_at 1 (ALimit (MuseumIn (drop 1 content))) refl in
    let b = not_at 2 (ALimit (DayIn (number content 0) (number content 2))) refl in
    let c = not_at 3 (ALimit (MinuteIn (number content 0) (number content 2))) refl in
    let d = not_at 4 (ALimit (PersonsUpTo (byte content 0))) refl in
    let e = not_at 5 (ALimit (NameIs (drop 1 content))) refl in
    let f = not_at 6 (AnElse (number content 0)) refl in
    omega arith
  where
    not_at : (n : ℕ) (g : LineView) → line_guess n content ≡ Some g → kind ≡ n → ⊥
    not_at n g e k = let same = ap (λ (m : ℕ). line_guess m content) k in contradiction (cc)

some_guess : (kind : ℕ) (content : List ℕ) (g : LineView) → line_guess kind content ≡ Some g → (1 ≤ kind) × (kind ≤ 6)
some_guess kind content g h = go (cases_lt kind 1) (cases_lt 6 kind)
  where
    none : (kind ≡ 1 → ⊥) → (kind ≡ 2 → ⊥) → (kind ≡ 3 → ⊥) → (kind ≡ 4 → ⊥) → (kind ≡ 5 → ⊥) → (kind ≡ 6 → ⊥) → ⊥
    none a b c d e f = let no = no_guess_at kind content a b c d e f in contradiction (cc)

    go : (kind < 1) ⊎ (1 ≤ kind) → (6 < kind) ⊎ (kind ≤ 6) → (1 ≤ kind) × (kind ≤ 6)
    go (inl low) y = absurd (none (λ k. omega arith) (λ k. omega arith) (λ k. omega arith) (λ k. omega arith) (λ k. omega arith) (λ k. omega arith))
    go (inr low) (inl high) = absurd (none (λ k. omega arith) (λ k. omega arith) (λ k. omega arith) (λ k. omega arith) (λ k. omega arith) (λ k. omega arith))
    go (inr low) (inr high) = (low, high)

pub told : (bs : List ℕ) → AreBytes bs → Tells bs (line_of bs)
unfolding line_of Written
told [] bytes = λ known. omega (arith, known.0)
told (kind ∷ content) bytes = go (line_guess kind content) refl
  where
    bs : List ℕ
    bs = kind ∷ content

    check : (g : LineView) → line_guess kind content ≡ Some g → (b : Bool) → (is_line g && same_bytes bs (line_bytes g)) ≡ b → Tells bs (ok_or (then_some b g) Unreadable)
    check g e true h =
        let both = and_parts (is_line g) (same_bytes bs (line_bytes g)) h in
        subst LineBytes (sym ((same_bytes_lem bs (line_bytes g)).0 both.1)) (written_shape g both.0)
    check g e false h =
        let known = some_guess kind content g e in (
          (omega arith, known.0, known.1),
          λ shape.
              let r = shape_written bs bytes shape in
              let back = guess_back r.0 kind content r.2 in
              let same : r.0 ≡ g = cc in
              let can = ap is_line (sym same) ∙ r.1 in
              let whole = r.2 ∙ ap line_bytes same in
              both_ways (is_line g && same_bytes bs (line_bytes g)) h (and_from (is_line g) (same_bytes bs (line_bytes g)) can ((same_bytes_lem bs (line_bytes g)).1 whole)),
        )

    go : (o : Option LineView) → line_guess kind content ≡ o → Tells bs (if_written bs o)
    go None e = λ known. no_guess kind content e known.1 known.2
    go (Some g) e = check g e (is_line g && same_bytes bs (line_bytes g)) refl

pub format_tells : FormatTells
format_tells bs bytes = record { told = told bs bytes; no_fault = no_fault; one_fault = one_fault }
  where
    no_fault : LineBytes bs → (f : Fault) → HasFault bs f → ⊥
    no_fault shape Shape h = h (shape_known bs shape)
    no_fault shape Unreadable h = h.1 shape
    no_fault shape TooMany h = h
    no_fault shape Range h = h

    one_fault : (f g : Fault) → HasFault bs f → HasFault bs g → f ≡ g
    one_fault Shape Shape a b = refl
    one_fault Shape Unreadable a b = absurd (a b.0)
    one_fault Shape TooMany a b = absurd b
    one_fault Shape Range a b = absurd b
    one_fault Unreadable Shape a b = absurd (b a.0)
    one_fault Unreadable Unreadable a b = refl
    one_fault Unreadable TooMany a b = absurd b
    one_fault Unreadable Range a b = absurd b
    one_fault TooMany g a b = absurd a
    one_fault Range g a b = absurd a
