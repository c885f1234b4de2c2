-- Terms in bytes, and what it is that HMAC is broken. Assumes nothing.
use Rattle.std.specs.Prelude.{◌≡◌, Bool, true, ◌≢◌, ◌⊎◌, List, ◌∷◌, map, length}
use mathlib.Core.List.{Memᴰ}
use Rattle.narrow.specs.Term.{Bytes, mac_length, Origin, Term, Secret, Own, Mac, Tie, Gets}
use Rattle.narrow.specs.Rows.{all}
use Rattle.narrow.specs.Ticket.{Yes, yes_message, Thing, terms_of, Shown, shown_terms, CanShow}
use Rattle.narrow.specs.Policy.{Policy, Closed, lets}
use Rattle.narrow.specs.Can.{can}

-- what the bytes of terms rest on: HMAC of a key's bytes and a message's, and the bytes of each secret
pub record Interpretation : Type 0 where
  pub hmac : Bytes → Bytes → Bytes
  pub secret : Origin → Bytes

-- the message of a tie: a byte 3, and what is tied
abbrev pub tie_message : Bytes → Bytes
tie_message b = 3 ∷ b

-- the bytes of a term
unfoldable pub bytes_of : Interpretation → Term → Bytes
bytes_of i (Secret o) = i.secret o
bytes_of i (Own b) = b
bytes_of i (Mac t m) = i.hmac (bytes_of i t) m
bytes_of i (Tie a e) = i.hmac (bytes_of i a) (tie_message (bytes_of i e))

-- where the bytes of a term come from
pub data Source : Type 0 where
  Drawn : Origin → Source
  Chosen : Bytes → Source
  MacOf : Bytes → Bytes → Source
  TieOf : Bytes → Bytes → Source

-- the source of a term's bytes, by the bytes of its parts
unfoldable pub source_of : Interpretation → Term → Source
source_of i (Secret o) = Drawn o
source_of i (Own b) = Chosen b
source_of i (Mac t m) = MacOf (bytes_of i t) m
source_of i (Tie a e) = TieOf (bytes_of i a) (bytes_of i e)

-- the first term is the second, or stands in it as a key or as what is tied
pub data Part (x : Term) : Term → Type 0 where
  itself : Part x x
  under : {t : Term} {m : Bytes} → Part x t → Part x (Mac t m)
  left : {a e : Term} → Part x a → Part x (Tie a e)
  right : {a e : Term} → Part x e → Part x (Tie a e)

-- a part of the one term and a part of the other have the same bytes from different sources
pub record Clash {S : Type 0} (i : Interpretation) (source : Term → S) (t u : Term) : Type 0 where
  pub one : Term
  pub one_part : Part one t
  pub other : Term
  pub other_part : Part other u
  pub same : bytes_of i one ≡ bytes_of i other
  pub apart : source one ≢ source other

-- broken at two terms: two inputs of HMAC have one output, or a secret or somebody's choice of bytes, by itself or inside a message,
-- is met by chance
abbrev pub Broken : Interpretation → Term → Term → Type 0
Broken i t u = Clash i (source_of i) t u

-- Two terms with the same bytes are the same, or broken.
abbrev pub SameOrBroken : Type 0
SameOrBroken = (i : Interpretation) (t u : Term) → bytes_of i t ≡ bytes_of i u → (t ≡ u) ⊎ Broken i t u

-- bytes that come with a derivation of a term that has them
pub record Derives (i : Interpretation) (have : List Term) (b : Bytes) : Type 0 where
  pub term : Term
  pub gets : Gets have term
  pub same : bytes_of i term ≡ b

-- each MAC that is shown comes with a derivation
abbrev pub EachDerives : Interpretation → List Term → List Bytes → Type 0
EachDerives i have shown = (b : Bytes) → Memᴰ b shown → Derives i have b

-- what was derived for one of the MACs that are shown, and the term with these bytes that the house works out, are broken
abbrev pub BrokenIn : (i : Interpretation) (have : List Term) (s : Shown) (shown : List Bytes) → EachDerives i have shown → Type 0
BrokenIn i have s shown d =
    (t : Term) × Memᴰ t (shown_terms s) × (b : Bytes) × (m : Memᴰ b shown) × (bytes_of i t ≡ b) × Broken i (d b m).term t

-- Where what is shown has the bytes of the terms that the house works out, and each comes with a derivation, those very terms can
-- be derived, or it is broken. Over any row of terms.
abbrev pub ShownOrBroken : Type 0
ShownOrBroken =
    (i : Interpretation) (have : List Term) (s : Shown) (shown : List Bytes) → shown ≡ map (bytes_of i) (shown_terms s) →
    (d : EachDerives i have shown) → CanShow have s ⊎ BrokenIn i have s shown d

-- COMPLETE, ON BYTES. Whatever is shown with right MACs and ties, each of which comes with a derivation from what was given: if the
-- house lets it through, then `can` says yes, or it is broken.
abbrev pub CanOrBroken : Type 0
CanOrBroken =
    (i : Interpretation) (p : Policy) → Closed p → (g : List Thing) (s : Shown) (shown : List Bytes) →
    shown ≡ map (bytes_of i) (shown_terms s) → (d : EachDerives i (terms_of g) shown) → lets p s ≡ true →
    (can p g ≡ true) ⊎ BrokenIn i (terms_of g) s shown d

-- every secret and every HMAC has 32 bytes
pub record Sized (i : Interpretation) : Type 0 where
  pub hmac_size : (k m : Bytes) → length (i.hmac k m) ≡ mac_length
  pub secret_size : (o : Origin) → length (i.secret o) ≡ mac_length

-- not 33 bytes that begin with a 3
abbrev pub NoTie : Bytes → Type 0
NoTie m = (rest : Bytes) → m ≡ tie_message rest → length rest ≢ mac_length

-- the messages of the formats: a ticket's number, of four bytes; the first of a yes; a line
pub data Message (is_line : Bytes → Bool) : Bytes → Type 0 where
  of_number : {m : Bytes} → length m ≡ 4 → Message is_line m
  of_yes : Message is_line yes_message
  of_line : {m : Bytes} → is_line m ≡ true → Message is_line m

-- a term that MACs only messages of the formats, and in which own bytes are 32
unfoldable pub Formatted : (Bytes → Bool) → Term → Type 0
Formatted is_line (Secret o) = Unit {0}
Formatted is_line (Own b) = length b ≡ mac_length
Formatted is_line (Mac t m) = Formatted is_line t × Message is_line m
Formatted is_line (Tie a e) = Formatted is_line a × Formatted is_line e

-- what HMAC was given for a term's bytes, if they are an HMAC's: a MAC and a tie are told apart by their messages alone
pub data Input : Type 0 where
  NoHmac : Source → Input
  Hmac : Bytes → Bytes → Input

-- the input of HMAC for a term
unfoldable pub input_of : Interpretation → Term → Input
input_of i (Secret o) = NoHmac (Drawn o)
input_of i (Own b) = NoHmac (Chosen b)
input_of i (Mac t m) = Hmac (bytes_of i t) m
input_of i (Tie a e) = Hmac (bytes_of i a) (tie_message (bytes_of i e))

-- Where no line is a tie's message, no message of the formats is; so where both terms MAC only such messages, what is broken is HMAC
-- itself: two different inputs with one output, or a secret or somebody's choice met by chance.
pub record MessagesApart (i : Interpretation) (is_line : Bytes → Bool) : Type 0 where
  pub no_tie : (m : Bytes) → Message is_line m → (e : Term) → Formatted is_line e → m ≢ tie_message (bytes_of i e)
  pub broken : (t u : Term) → Formatted is_line t → Formatted is_line u → Broken i t u → Clash i (input_of i) t u

-- So it is wherever no line is 33 bytes that begin with a 3.
abbrev pub FormatsApart : Type 0
FormatsApart =
    (i : Interpretation) → Sized i → (is_line : Bytes → Bool) → ((l : Bytes) → is_line l ≡ true → NoTie l) → MessagesApart i is_line

-- The input of HMAC is what a term's bytes are worked out from.
abbrev pub InputsGive : Type 0
InputsGive = (i : Interpretation) (t : Term) (k m : Bytes) → input_of i t ≡ Hmac k m → bytes_of i t ≡ i.hmac k m

-- what is shown has a number of four bytes, and lines that are lines
pub record ShownLines (is_line : Bytes → Bool) (s : Shown) : Type 0 where
  pub number : length s.ticket.number ≡ 4
  pub lines : all is_line s.ticket.lines ≡ true
  pub limits : (y : Yes) → Memᴰ y s.yeses → all is_line y.lines ≡ true

-- HMAC itself is broken, at what was derived for one of the MACs that are shown and the term that the house works out
abbrev pub HmacBrokenIn : (i : Interpretation) (have : List Term) (s : Shown) (shown : List Bytes) → EachDerives i have shown → Type 0
HmacBrokenIn i have s shown d =
    (t : Term) × Memᴰ t (shown_terms s) × (b : Bytes) × (m : Memᴰ b shown) × (bytes_of i t ≡ b) × Clash i (input_of i) (d b m).term t

-- COMPLETE, ON BYTES, FOR THE FORMATS' MESSAGES. Where what is shown is of the formats, and derivations MAC only messages of the
-- formats, `can` says yes, or HMAC itself is broken.
abbrev pub CanOrHmacBroken : Type 0
CanOrHmacBroken =
    (i : Interpretation) → Sized i → (is_line : Bytes → Bool) → ((l : Bytes) → is_line l ≡ true → NoTie l) →
    (p : Policy) → Closed p → (g : List Thing) (s : Shown) (shown : List Bytes) → ShownLines is_line s →
    shown ≡ map (bytes_of i) (shown_terms s) → (d : EachDerives i (terms_of g) shown) →
    ((b : Bytes) (m : Memᴰ b shown) → Formatted is_line (d b m).term) → lets p s ≡ true →
    (can p g ≡ true) ⊎ HmacBrokenIn i (terms_of g) s shown d
