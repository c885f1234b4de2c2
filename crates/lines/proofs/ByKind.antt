-- What is read of a line, kind by kind. Assumes nothing.
use Rattle.std.proofs.Common.{◌≡◌, ℕ, ◌<◌, ◌≤◌, Bool, true, leb, List, [], ◌∷◌, length, get_or, drop, Some, Ok, Err, sym, refl, ap, ◌∙◌, arith}
use Rattle.std.proofs.lemmas.List.{nil_from_length}
use Rattle.std.proofs.lemmas.Bool.{and_parts, and_from, leb-true, le-leb}
use Rattle.numbers.specs.Bytes.{two_bytes}
use Rattle.numbers.specs.Places.{number}
use Rattle.numbers.proofs.Bytes.{all_places}
use Rattle.parts.specs.Limits.{LimitView, ALimit, AnElse, MuseumIn, DayIn, MinuteIn, PersonsUpTo, NameIs, is_museums, is_name, is_span, is_limit}
use Rattle.wishes.specs.Format.{counted_bytes}
use Rattle.lines.specs.declared.Fault.TheVariants.{Shape, Unreadable}
use Rattle.lines.specs.declared.kinds.Kind.{Kind}
use Rattle.lines.specs.declared.kinds.Kind.TheVariants as kinds
use Rattle.lines.specs.Format.{span_bytes, limit_bytes}
use Rattle.lines.specs.Kinds.{kind_number}
use Rattle.lines.specs.Reading.{line_guess, line_of}
use Rattle.lines.proofs.Decoding.{no_guess_at, line_read_is, line_not_read, line_no_kind}

pub no_line : (bs : List ℕ) → length bs < 1 → Err Shape ≡ line_of bs
unfolding line_of
no_line bs short = sym (ap line_of (nil_from_length bs (omega arith)))

pub no_kind : (kind : ℕ) (content : List ℕ) → ((k : Kind) → kind ≡ kind_number k → ⊥) → Err Shape ≡ line_of (kind ∷ content)
no_kind kind content none =
    sym (line_no_kind kind content
    (no_guess_at kind content (none kinds.Museums) (none kinds.Days) (none kinds.Minutes) (none kinds.Persons) (none kinds.Name) (none kinds.Else)))

-- a kind of limit whose content is a count and so many bytes
pub record CountedKind (kind : ℕ) (of : List ℕ → LimitView) (can : List ℕ → Bool) : Type 0 where
  pub guess : (content : List ℕ) → line_guess kind content ≡ Some (ALimit (of (drop 1 content)))
  pub limit : (xs : List ℕ) → is_limit (of xs) ≡ can xs
  pub bytes : (xs : List ℕ) → limit_bytes (of xs) ≡ kind ∷ counted_bytes xs

pub museums : CountedKind 1 MuseumIn is_museums
museums = record { guess = λ _. refl; limit = λ _. refl; bytes = λ _. refl }

pub name : CountedKind 5 NameIs is_name
name = record { guess = λ _. refl; limit = λ _. refl; bytes = λ _. refl }

module _ {kind : ℕ} {of : List ℕ → LimitView} {can : List ℕ → Bool} (k : CountedKind kind of can) (content : List ℕ) where
  pub not_counted : ((xs : List ℕ) → can xs ≡ true → content ≡ counted_bytes xs → ⊥) → Err Unreadable ≡ line_of (kind ∷ content)
  not_counted none =
      let xs = drop 1 content in
      sym (line_not_read kind content (ALimit (of xs)) (k.guess content)
      (λ fits e. let bytes = k.bytes xs in none xs (sym (k.limit xs) ∙ fits) (cc)))

  pub counted_line : (xs : List ℕ) → can xs ≡ true → content ≡ counted_bytes xs → Ok (ALimit (of xs)) ≡ line_of (kind ∷ content)
  counted_line xs fits e = let bytes = k.bytes xs in sym (line_read_is (ALimit (of xs)) (kind ∷ content) (k.limit xs ∙ fits) (cc))

-- a kind of limit whose content is two numbers
pub record SpanKind (kind : ℕ) (of : ℕ → ℕ → LimitView) : Type 0 where
  pub guess : (content : List ℕ) → line_guess kind content ≡ Some (ALimit (of (number content 0) (number content 2)))
  pub limit : (a b : ℕ) → is_limit (of a b) ≡ is_span a b
  pub bytes : (a b : ℕ) → limit_bytes (of a b) ≡ kind ∷ span_bytes a b

pub days : SpanKind 2 DayIn
days = record { guess = λ _. refl; limit = λ _ _. refl; bytes = λ _ _. refl }

pub minutes : SpanKind 3 MinuteIn
minutes = record { guess = λ _. refl; limit = λ _ _. refl; bytes = λ _ _. refl }

module _ {kind : ℕ} {of : ℕ → ℕ → LimitView} (k : SpanKind kind of) (content : List ℕ) where
  pub not_span : ((a b : ℕ) → a ≤ b → content ≡ span_bytes a b → ⊥) → Err Unreadable ≡ line_of (kind ∷ content)
  not_span none =
      let a = number content 0 in
      let b = number content 2 in
      sym (line_not_read kind content (ALimit (of a b)) (k.guess content)
      (λ can e. let bytes = k.bytes a b in none a b (leb-true a b (and_parts (leb a b) (leb b 65535) (sym (k.limit a b) ∙ can)).0) (cc)))

  -- two numbers that are read from bytes have 16 bits
  pub span_line : (a b : ℕ) → a ≤ b → content ≡ span_bytes a b → get_or content 2 0 < 256 → Ok (ALimit (of a b)) ≡ line_of (kind ∷ content)
  span_line a b ordered e byte =
      let high = ap (λ (xs : List ℕ). get_or xs 2 0) e in
      let bytes = k.bytes a b in
      let can = and_from (leb a b) (leb b 65535) (le-leb a b ordered) (le-leb b 65535 (omega arith)) in
      sym (line_read_is (ALimit (of a b)) (kind ∷ content) (k.limit a b ∙ can) (cc))

module _ (content : List ℕ) where
  pub not_persons : (length content ≡ 1 → ⊥) → Err Unreadable ≡ line_of (4 ∷ content)
  not_persons none =
      sym (line_not_read 4 content (ALimit (PersonsUpTo (get_or content 0 0))) refl
      (λ can e. none (let c : content ≡ get_or content 0 0 ∷ [] = cc in ap length c)))

  pub persons_line : (n : ℕ) → (length content ≡ 1) × (n ≡ get_or content 0 0) → get_or content 0 0 < 256 → Ok (ALimit (PersonsUpTo n)) ≡ line_of (4 ∷ content)
  persons_line n h byte =
      let whole = all_places 1 content h.0 in
      let first = h.1 in
      sym (line_read_is (ALimit (PersonsUpTo n)) (4 ∷ content) (le-leb n 255 (omega arith)) (cc))

  pub not_else : ((n : ℕ) → n ≤ 4095 → content ≡ two_bytes n → ⊥) → Err Unreadable ≡ line_of (6 ∷ content)
  not_else none =
      let n = number content 0 in
      sym (line_not_read 6 content (AnElse n) refl (λ can e. none n (leb-true n 4095 can) (cc)))

  pub else_line : (n : ℕ) → n ≤ 4095 → content ≡ two_bytes n → Ok (AnElse n) ≡ line_of (6 ∷ content)
  else_line n can e = sym (line_read_is (AnElse n) (6 ∷ content) (le-leb n 4095 can) (cc))
