-- Which bytes are lines, by kind, length and content: in the format's own words, without its reader and writer. Assumes nothing.
use Rattle.std.specs.Prelude.{◌≡◌, ℕ, ◌+◌, ◌<◌, ◌≤◌, List, length, Ok, Err, Result}
use Rattle.numbers.specs.Places.{byte, number}
use Rattle.lines.specs.declared.Fault.{Fault}
use Rattle.lines.specs.declared.Fault.TheVariants.{Shape, Unreadable, TooMany, Range}

-- a kind, then how many, and then so many bytes, each from one value to another
pub record CountedLine (kind least most low high : ℕ) (bs : List ℕ) : Type 0 where
  pub kind_is : byte bs 0 ≡ kind
  pub enough : least ≤ byte bs 1
  pub not_more : byte bs 1 ≤ most
  pub long : length bs ≡ 2 + byte bs 1
  pub each : (i : ℕ) → 2 ≤ i → i < length bs → (low ≤ byte bs i) × (byte bs i ≤ high)

-- a kind, and two numbers, the second no less
pub record SpanLine (kind : ℕ) (bs : List ℕ) : Type 0 where
  pub kind_is : byte bs 0 ≡ kind
  pub long : length bs ≡ 5
  pub ordered : number bs 1 ≤ number bs 3

-- which bytes are a line
pub data LineBytes (bs : List ℕ) : Type 0 where
  of_museums : CountedLine 1 1 8 1 200 bs → LineBytes bs
  of_days : SpanLine 2 bs → LineBytes bs
  of_minutes : SpanLine 3 bs → LineBytes bs
  of_persons : byte bs 0 ≡ 4 → length bs ≡ 2 → LineBytes bs
  of_name : CountedLine 5 0 32 97 122 bs → LineBytes bs
  of_else : byte bs 0 ≡ 6 → length bs ≡ 3 → number bs 1 ≤ 4095 → LineBytes bs

-- there is a first byte, and it is a kind of line
abbrev pub KnownKind : List ℕ → Type 0
KnownKind bs = (1 ≤ length bs) × (1 ≤ byte bs 0) × (byte bs 0 ≤ 6)

-- which bytes have a fault, by its cause
abbrev pub HasFault : List ℕ → Fault → Type 0
HasFault bs Shape = KnownKind bs → ⊥
HasFault bs Unreadable = KnownKind bs × (LineBytes bs → ⊥)
HasFault bs TooMany = ⊥
HasFault bs Range = ⊥

-- what is told of the bytes is so
abbrev pub Tells : {X : Type 0} → List ℕ → Result X Fault → Type 0
Tells bs (Ok x) = LineBytes bs
Tells bs (Err f) = HasFault bs f
