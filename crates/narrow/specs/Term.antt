-- MACs as terms, and all that can be derived from a row of terms. Assumes nothing.
use Rattle.std.specs.Prelude.{◌≡◌, ℕ, List, [], ◌∷◌, length}
use mathlib.Core.List.{Memᴰ}

-- bytes, as numbers
abbrev pub Bytes : Type 0
Bytes = List ℕ

-- how many bytes a key, a MAC and a tie have
abbrev pub mac_length : ℕ
mac_length = 32

-- whose secret: the house's own, under which tickets are made, or that of key k, under which the yeses of k are made
pub data Origin : Type 0 where
  House : Origin
  KeyOf : ℕ → Origin

-- 32 bytes, by how they came about: a secret that was drawn; bytes of anybody's own choice; the MAC (HMAC), under a term, of
-- bytes; a tie: the MAC, under the first term, of a byte 3 and the second. HMAC is a free constructor here: that nothing but
-- MACs under it can be worked out from a term is the premise of this model, and stands in `Gets`
pub data Term : Type 0 where
  Secret : Origin → Term
  Own : Bytes → Term
  Mac : Term → Bytes → Term
  Tie : Term → Term → Term

-- the wide attacker: what can be derived from a row of terms, with HMAC used in every way there is
pub data Gets (have : List Term) : Term → Type 0 where
  has : {t : Term} → Memᴰ t have → Gets have t
  own : (b : Bytes) → length b ≡ mac_length → Gets have (Own b)
  mac : {t : Term} (m : Bytes) → Gets have t → Gets have (Mac t m)
  tie : {a e : Term} → Gets have a → Gets have e → Gets have (Tie a e)

-- each message MACed under the MAC before
unfoldable pub macs : Term → List Bytes → Term
macs t [] = t
macs t (m ∷ ms) = macs (Mac t m) ms
