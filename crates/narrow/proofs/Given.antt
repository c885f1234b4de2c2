-- Whoever can derive a ticket, a yes or a tie was given it, or what it is made of. Assumes nothing.
use Rattle.std.proofs.Common.{◌≡◌, ℕ, ◌⊎◌, List, ◌∷◌, ◌++◌, sym, refl, ap, ◌∙◌, inl, inr}
use mathlib.Core.List.Memᴰ
use mathlib.Core.List.{Memᴰ, cons-eq-cons}
use Rattle.narrow.specs.Term.{Bytes, House, KeyOf, Term, Secret, Mac, Gets, has, mac, tie, macs, Origin}
use Rattle.narrow.specs.Ticket.{Ticket, Yes, Extends, Narrows, ticket_mac, yes_mac, yes_message, tie_of, with_line, with_limit, Thing, ATicket, AYes, ATied, AKey, term_of, terms_of, given, line, limit, yes_under, tied, bare}
use Rattle.narrow.specs.Promise.{MakesWithin, MakesOnly, KeysGiven, TicketGiven, YesGiven, TieGiven}
use Rattle.narrow.proofs.Rows.{contradiction, map_in}
use Rattle.narrow.proofs.Terms.{given_or_made, root, messages, root_macs, messages_macs, macs_push, front_given}

pub ticket_root : (t : Ticket) → root (ticket_mac t) ≡ Secret House
ticket_root t = root_macs (Secret House) (t.number ∷ t.lines)

pub ticket_messages : (t : Ticket) → messages (ticket_mac t) ≡ t.number ∷ t.lines
ticket_messages t = messages_macs (Secret House) (t.number ∷ t.lines)

pub yes_root : (y : Yes) → root (yes_mac y) ≡ Secret (KeyOf y.key)
yes_root y = root_macs (Secret (KeyOf y.key)) (yes_message ∷ y.lines)

pub yes_messages : (y : Yes) → messages (yes_mac y) ≡ yes_message ∷ y.lines
yes_messages y = messages_macs (Secret (KeyOf y.key)) (yes_message ∷ y.lines)

-- a ticket and a yes are told by their MACs
pub ticket_by_mac : (t s : Ticket) → ticket_mac t ≡ ticket_mac s → t ≡ s
ticket_by_mac t s e =
    let parts = cons-eq-cons.0 (sym (ticket_messages t) ∙ ap messages e ∙ ticket_messages s) in
    λ i. record { number = parts.0 i; lines = parts.1 i }

pub yes_by_mac : (y z : Yes) → yes_mac y ≡ yes_mac z → y ≡ z
yes_by_mac y z e =
    let roots : Secret (KeyOf y.key) ≡ Secret (KeyOf z.key) = sym (yes_root y) ∙ ap root e ∙ yes_root z in
    let keys : y.key ≡ z.key = cc in
    let parts = cons-eq-cons.0 (sym (yes_messages y) ∙ ap messages e ∙ yes_messages z) in
    λ i. record { key = keys i; lines = parts.1 i }

-- whose root a given thing's term has, and so what it is
ticket_of : (t : Ticket) (x : Thing) (more : List Bytes) → root (term_of x) ≡ root (ticket_mac t) → messages (ticket_mac t) ≡ messages (term_of x) ++ more →
    (s : Ticket) × (ATicket s ≡ x) × Extends t s
ticket_of t (ATicket s) more r e =
    let parts = cons-eq-cons.0 (sym (ticket_messages t) ∙ e ∙ ap (λ (ms : List Bytes). ms ++ more) (ticket_messages s)) in
    (s, refl, (parts.0, (more, parts.1)))
ticket_of t (AYes y) more r e = let a = yes_root y in let b = ticket_root t in contradiction (cc)
ticket_of t (ATied s y) more r e = let b = ticket_root t in contradiction (cc)
ticket_of t (AKey k) more r e = let b = ticket_root t in contradiction (cc)

pub ticket_given : TicketGiven
ticket_given g t d =
    let f = front_given House d (ticket_root t) in
    let x = map_in term_of g f.term f.there in
    let s = ticket_of t x.0 f.more (ap root (sym x.2) ∙ f.same_root) (f.longer ∙ ap (λ (u : Term). messages u ++ f.more) x.2) in
    (s.0, Memᴰ.cast s.1 x.1, s.2)

yes_of : (y : Yes) (x : Thing) (more : List Bytes) → root (term_of x) ≡ root (yes_mac y) → messages (yes_mac y) ≡ messages (term_of x) ++ more →
    (AKey y.key ≡ x) ⊎ ((z : Yes) × (AYes z ≡ x) × Narrows y z)
yes_of y (ATicket t) more r e = let a = yes_root y in let b = ticket_root t in contradiction (cc)
yes_of y (AYes z) more r e =
    let roots : Secret (KeyOf z.key) ≡ Secret (KeyOf y.key) = sym (yes_root z) ∙ r ∙ yes_root y in
    let keys : y.key ≡ z.key = cc in
    let parts = cons-eq-cons.0 (sym (yes_messages y) ∙ e ∙ ap (λ (ms : List Bytes). ms ++ more) (yes_messages z)) in
    inr (z, refl, (keys, (more, parts.1)))
yes_of y (ATied t z) more r e = let a = yes_root y in contradiction (cc)
yes_of y (AKey k) more r e = let a = yes_root y in inl (let keys : y.key ≡ k = cc in ap AKey keys)

pub yes_given : YesGiven
yes_given g y d =
    let f = front_given (KeyOf y.key) d (yes_root y) in
    let x = map_in term_of g f.term f.there in
    placed x.0 x.1 (yes_of y x.0 f.more (ap root (sym x.2) ∙ f.same_root) (f.longer ∙ ap (λ (u : Term). messages u ++ f.more) x.2))
  where
    placed : (x : Thing) → Memᴰ x g → (AKey y.key ≡ x) ⊎ ((z : Yes) × (AYes z ≡ x) × Narrows y z) →
        Memᴰ (AKey y.key) g ⊎ ((z : Yes) × Memᴰ (AYes z) g × Narrows y z)
    placed x m (inl e) = inl (Memᴰ.cast e m)
    placed x m (inr z) = inr (z.0, Memᴰ.cast z.1 m, z.2)

tied_of : (t : Ticket) (y : Yes) (x : Thing) → tie_of t y ≡ term_of x → ATied t y ≡ x
tied_of t y (ATicket s) e = let a = ticket_root s in let b : root (ticket_mac s) ≡ root (tie_of t y) = ap root (sym e) in contradiction (cc)
tied_of t y (AYes z) e = let a = yes_root z in let b : root (yes_mac z) ≡ root (tie_of t y) = ap root (sym e) in contradiction (cc)
tied_of t y (ATied s z) e =
    let p : t ≡ s = ticket_by_mac t s (cc) in
    let q : y ≡ z = yes_by_mac y z (cc) in
    cc
tied_of t y (AKey k) e = contradiction (cc)

pub tie_given : TieGiven
tie_given g t y d = placed (given_or_made d)
  where
    placed : Memᴰ (tie_of t y) (terms_of g) ⊎ (Gets (terms_of g) (ticket_mac t) × Gets (terms_of g) (yes_mac y)) →
        Memᴰ (ATied t y) g ⊎ (Gets (terms_of g) (ticket_mac t) × Gets (terms_of g) (yes_mac y))
    placed (inl m) = let x = map_in term_of g (tie_of t y) m in inl (Memᴰ.cast (tied_of t y x.0 x.2) x.1)
    placed (inr parts) = inr parts

-- the MAC of a ticket or a yes with one line more
pub line_mac : (t : Ticket) (l : Bytes) → ticket_mac (with_line t l) ≡ Mac (ticket_mac t) l
line_mac t l = macs_push (Secret House) (t.number ∷ t.lines) l

pub limit_mac : (y : Yes) (l : Bytes) → yes_mac (with_limit y l) ≡ Mac (yes_mac y) l
limit_mac y l = macs_push (Secret (KeyOf y.key)) (yes_message ∷ y.lines) l

pub makes_within : MakesWithin
unfolding macs
makes_within have t (given m) = has m
makes_within have t (line s l d) = rw (line_mac s l) (mac l (makes_within have (ticket_mac s) d))
makes_within have t (limit y l d) = rw (limit_mac y l) (mac l (makes_within have (yes_mac y) d))
makes_within have t (yes_under k m) = mac yes_message (has m)
makes_within have t (tied s y a e) = tie (makes_within have (ticket_mac s) a) (makes_within have (yes_mac y) e)

pub makes_only : MakesOnly
makes_only have u (given m) = inl m
makes_only have u (line s l d) = inr (inl (with_line s l, refl))
makes_only have u (limit y l d) = inr (inr (inl (with_limit y l, refl)))
makes_only have u (yes_under k m) = inr (inr (inl (bare k, refl)))
makes_only have u (tied s y a e) = inr (inr (inr (s, y, refl)))

-- which given thing is a secret
secret_of : (o : Origin) (x : Thing) → Secret o ≡ term_of x → (k : ℕ) × (o ≡ KeyOf k) × (AKey k ≡ x)
secret_of o (ATicket t) e = let m = ticket_messages t in let n : messages (Secret o) ≡ messages (ticket_mac t) = ap messages e in contradiction (cc)
secret_of o (AYes y) e = let m = yes_messages y in let n : messages (Secret o) ≡ messages (yes_mac y) = ap messages e in contradiction (cc)
secret_of o (ATied t y) e = contradiction (cc)
secret_of o (AKey k) e = (k, cc, refl)

-- a secret that can be derived was given
secret_given : (g : List Thing) (o : Origin) → Gets (terms_of g) (Secret o) → (k : ℕ) × (o ≡ KeyOf k) × Memᴰ (AKey k) g
secret_given g o d = there (given_or_made d)
  where
    there : Memᴰ (Secret o) (terms_of g) ⊎ ⊥ → (k : ℕ) × (o ≡ KeyOf k) × Memᴰ (AKey k) g
    there (inl m) =
        let (x, i, e) = map_in term_of g (Secret o) m in
        let (k, same, is) = secret_of o x e in
        (k, same, Memᴰ.cast is i)
    there (inr n) = absurd n

pub keys_given : KeysGiven
keys_given g = (
  λ d. let (k, e, m) = secret_given g House d in contradiction (cc),
  λ k d. let (j, e, m) = secret_given g (KeyOf k) d in let same : k ≡ j = cc in Memᴰ.cast (ap AKey same) m,
)
