-- What can be derived was given, or made of what can be derived. Assumes nothing.
use Rattle.std.proofs.Common.{◌≡◌, ◌⊎◌, List, [], ◌∷◌, ◌++◌, length, sym, refl, ap, ◌∙◌, inl, inr, append_assoc, append-nil}
use mathlib.Core.List.{Memᴰ}
use Rattle.narrow.specs.Term.{Bytes, mac_length, Origin, Term, Secret, Own, Mac, Tie, Gets, has, own, mac, tie, macs}
use Rattle.narrow.proofs.Rows.{contradiction}

-- what a term is made of can be derived
abbrev pub Parts : List Term → Term → Type 0
Parts have (Secret o) = ⊥
Parts have (Own b) = length b ≡ mac_length
Parts have (Mac t m) = Gets have t
Parts have (Tie a e) = Gets have a × Gets have e

-- the one law of deriving
pub given_or_made : {have : List Term} {t : Term} → Gets have t → Memᴰ t have ⊎ Parts have t
given_or_made (has m) = inl m
given_or_made (own b e) = inr e
given_or_made (mac m d) = inr d
given_or_made (tie a e) = inr (a, e)

-- a term as a row of messages MACed one under the other, from what is no MAC of bytes
abbrev pub root : Term → Term
root (Secret o) = Secret o
root (Own b) = Own b
root (Mac t m) = root t
root (Tie a e) = Tie a e

abbrev pub messages : Term → List Bytes
messages (Secret o) = []
messages (Own b) = []
messages (Mac t m) = messages t ++ m ∷ []
messages (Tie a e) = []

pub root_macs : (t : Term) (ms : List Bytes) → root (macs t ms) ≡ root t
unfolding macs
root_macs t [] = refl
root_macs t (m ∷ ms) = root_macs (Mac t m) ms

pub messages_macs : (t : Term) (ms : List Bytes) → messages (macs t ms) ≡ messages t ++ ms
unfolding macs
messages_macs t [] = sym (append-nil (messages t))
messages_macs t (m ∷ ms) = messages_macs (Mac t m) ms ∙ append_assoc (messages t) (m ∷ []) ms

pub macs_append : (t : Term) (ms ns : List Bytes) → macs t (ms ++ ns) ≡ macs (macs t ms) ns
unfolding macs
macs_append t [] ns = refl
macs_append t (m ∷ ms) ns = macs_append (Mac t m) ms ns

-- one message more
pub macs_push : (t : Term) (ms : List Bytes) (m : Bytes) → macs t (ms ++ m ∷ []) ≡ Mac (macs t ms) m
unfolding macs
macs_push t ms m = macs_append t ms (m ∷ [])

-- a row of MACs under a secret, from its beginning on
pub record Front (have : List Term) (t : Term) : Type 0 where
  pub term : Term
  pub there : Memᴰ term have
  pub same_root : root term ≡ root t
  pub more : List Bytes
  pub longer : messages t ≡ messages term ++ more

front_push : {have : List Term} {t : Term} (m : Bytes) → Front have t → Front have (Mac t m)
front_push m f =
    record {
      term = f.term;
      there = f.there;
      same_root = f.same_root;
      more = f.more ++ m ∷ [];
      longer = ap (λ (ms : List Bytes). ms ++ m ∷ []) f.longer ∙ append_assoc (messages f.term) f.more (m ∷ []);
    }

-- whoever can derive a row of MACs under a secret was given it from its beginning on, up to some message
pub front_given : {have : List Term} {t : Term} (o : Origin) → Gets have t → root t ≡ Secret o → Front have t
front_given {t = t} o (has m) e =
    record { term = t; there = m; same_root = refl; more = []; longer = sym (append-nil (messages t)) }
front_given o (own b s) e = contradiction (cc)
front_given o (mac m d) e = front_push m (front_given o d e)
front_given o (tie a e₁) e = contradiction (cc)
