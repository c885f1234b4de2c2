-- What is promised of the model. Each statement is a type; a proof of it is the theorem. Assumes nothing.
use Rattle.std.specs.Prelude.{◌≡◌, ℕ, ◌≤◌, Bool, true, false, ◌⊎◌, List, [], ◌∷◌, ◌++◌, length, Some, None, Decides, ◌≢◌}
use mathlib.Core.List.{Memᴰ}
use Rattle.narrow.specs.Term.{Bytes, House, KeyOf, Term, Secret, Gets}
use Rattle.narrow.specs.Ticket.{Ticket, Yes, with_line, with_limit, Extends, Narrows, ticket_mac, yes_mac, tie_of, Thing, ATicket, AYes, ATied, AKey, terms_of, Makes, Shown, CanShow, CanMake}
use Rattle.narrow.specs.Policy.{Limit, Else, Unreadable, Meaning, Policy, Closed, today, most_yeses, all_met, lets}
use Rattle.narrow.specs.Can.{shows, can}

-- What the narrow attacker makes, the wide one derives.
abbrev pub MakesWithin : Type 0
MakesWithin = (have : List Term) (t : Term) → Makes have t → Gets have t

-- Whoever can derive a ticket's MAC was given that ticket with its last lines left off, perhaps none.
abbrev pub TicketGiven : Type 0
TicketGiven = (g : List Thing) (t : Ticket) → Gets (terms_of g) (ticket_mac t) → (s : Ticket) × Memᴰ (ATicket s) g × Extends t s

-- Whoever can derive a yes's MAC has its key, or was given the yes with its last limits left off, perhaps none.
abbrev pub YesGiven : Type 0
YesGiven =
    (g : List Thing) (y : Yes) → Gets (terms_of g) (yes_mac y) →
    Memᴰ (AKey y.key) g ⊎ ((z : Yes) × Memᴰ (AYes z) g × Narrows y z)

-- Whoever can derive a tie was given it, or can derive both its parts.
abbrev pub TieGiven : Type 0
TieGiven =
    (g : List Thing) (t : Ticket) (y : Yes) → Gets (terms_of g) (tie_of t y) →
    Memᴰ (ATied t y) g ⊎ (Gets (terms_of g) (ticket_mac t) × Gets (terms_of g) (yes_mac y))

-- Nobody derives the house's key; and whoever derives key k was given it, not only a yes of it.
abbrev pub KeysGiven : Type 0
KeysGiven =
    (g : List Thing) → (Gets (terms_of g) (Secret House) → ⊥) × ((k : ℕ) → Gets (terms_of g) (Secret (KeyOf k)) → Memᴰ (AKey k) g)

-- What the narrow attacker makes is what was given, or the term of a ticket, of a yes or of a tie.
abbrev pub MakesOnly : Type 0
MakesOnly =
    (have : List Term) (u : Term) → Makes have u →
    Memᴰ u have ⊎ (((t : Ticket) × (u ≡ ticket_mac t)) ⊎ (((y : Yes) × (u ≡ yes_mac y)) ⊎ ((t : Ticket) × (y : Yes) × (u ≡ tie_of t y))))

-- The policy of today takes with a ticket those with its last lines left off.
abbrev pub TodayClosed : Type 0
TodayClosed = (v : Meaning) → Closed (today v)

-- What it means that the house lets a wish through: the ticket is taken; each line can be read; a limit among them holds; for an
-- else there is a shown yes of that key, which is used, all of whose lines are limits that hold.
pub record Through (p : Policy) (s : Shown) : Type 0 where
  pub taken : p.takes s.ticket ≡ true
  pub readable : (l : Bytes) → Memᴰ l s.ticket.lines → p.says l ≢ Unreadable
  pub limits : (l : Bytes) → Memᴰ l s.ticket.lines → (b : Bool) → p.says l ≡ Limit b → b ≡ true
  pub elses : (l : Bytes) → Memᴰ l s.ticket.lines → (k : ℕ) → p.says l ≡ Else k →
      (y : Yes) × Memᴰ y s.yeses × (y.key ≡ k) × (p.uses k ≡ true) × ((m : Bytes) → Memᴰ m y.lines → p.says m ≡ Limit true)

-- `lets` decides just that.
abbrev pub LetsMeans : Type 0
LetsMeans = (p : Policy) (s : Shown) → Decides (lets p s) (Through p s)

-- A line more on the ticket that is shown, or a limit more on a yes, lets no more through.
pub record Narrower (p : Policy) : Type 0 where
  pub line : (t : Ticket) (l : Bytes) (ys : List Yes) →
      lets p (record { ticket = with_line t l; yeses = ys }) ≡ true → lets p (record { ticket = t; yeses = ys }) ≡ true
  pub limit : (t : Ticket) (ys : List Yes) (y : Yes) (l : Bytes) (zs : List Yes) →
      lets p (record { ticket = t; yeses = ys ++ with_limit y l ∷ zs }) ≡ true → lets p (record { ticket = t; yeses = ys ++ y ∷ zs }) ≡ true

-- So it is for every closed policy.
abbrev pub ShownNarrower : Type 0
ShownNarrower = (p : Policy) → Closed p → Narrower p

-- SOUND. Where `can` says yes, there is something to show; the ticket's MAC and each tie, which are the terms of just that ticket
-- and those yeses, are made of what was given by the narrow attacker's means; and the house lets it through.
abbrev pub Sound : Type 0
Sound =
    (p : Policy) (g : List Thing) → can p g ≡ true →
    (s : Shown) × (shows p g ≡ Some s) × CanMake (terms_of g) s × (lets p s ≡ true)

-- COMPLETE. Whatever is shown, if the wide attacker can derive all of it and the house lets it through, then `can` says yes; and
-- where `can` says no, there is nothing to show.
abbrev pub Complete : Type 0
Complete =
    (p : Policy) → Closed p → (g : List Thing) →
    ((s : Shown) → CanShow (terms_of g) s → lets p s ≡ true → can p g ≡ true) × (can p g ≡ false → shows p g ≡ None)

-- So the two attackers meet: where the wide one is let through by something, the narrow one is, by what `can` shows.
abbrev pub AttackersMeet : Type 0
AttackersMeet =
    (p : Policy) → Closed p → (g : List Thing) (s : Shown) → CanShow (terms_of g) s → lets p s ≡ true →
    (r : Shown) × (shows p g ≡ Some r) × CanMake (terms_of g) r × (lets p r ≡ true)

-- The first is the second, or the second with lines added: to a ticket, to a yes, or to a yes before it was tied.
pub data Narrowed : Thing → Thing → Type 0 where
  ticket : {t s : Ticket} → Extends t s → Narrowed (ATicket t) (ATicket s)
  free : {y z : Yes} → Narrows y z → Narrowed (AYes y) (AYes z)
  tied : {t : Ticket} {y z : Yes} → Narrows y z → Narrowed (ATied t y) (ATied t z)
  key : {k : ℕ} → Narrowed (AKey k) (AKey k)

-- MONOTONE. Whoever has each thing that somebody else has, or has it with last lines left off, can no less.
abbrev pub MoreCovered : Type 0
MoreCovered =
    (p : Policy) → Closed p → (g h : List Thing) →
    ((x : Thing) → Memᴰ x g → (z : Thing) × Memᴰ z h × Narrowed x z) → can p g ≡ true → can p h ≡ true

-- So a line more on a given thing, wherever it stands, never turns no into yes;
abbrev pub LineLess : Type 0
LineLess =
    (p : Policy) → Closed p → (before after : List Thing) (x z : Thing) → Narrowed x z →
    can p (before ++ x ∷ after) ≡ true → can p (before ++ z ∷ after) ≡ true

-- and more given, in any order, never turns yes into no.
abbrev pub MoreGiven : Type 0
MoreGiven =
    (p : Policy) → Closed p → (g h : List Thing) → ((x : Thing) → Memᴰ x g → Memᴰ x h) →
    can p g ≡ true → can p h ≡ true

-- the rows of lines that stand on a thing
abbrev pub rows_of : Thing → List (List Bytes)
rows_of (ATicket t) = t.lines ∷ []
rows_of (AYes y) = y.lines ∷ []
rows_of (ATied t y) = t.lines ∷ y.lines ∷ []
rows_of (AKey k) = []

-- all limits of a row of lines hold, and each line can be read
abbrev pub limits_hold : Meaning → List Bytes → Bool
limits_hold v ls = all_met v (λ k. true) ls

-- `can` knows the wish only through what lines say: where on each given thing all limits hold by one meaning only if they do by
-- another, which asks for no yes more, whoever can by the first can by the second.
abbrev pub MoreHolds : Type 0
MoreHolds =
    (p : Policy) (w : Meaning) (g : List Thing) →
    ((x : Thing) → Memᴰ x g → (ls : List Bytes) → Memᴰ ls (rows_of x) → (l : Bytes) → Memᴰ l ls → (k : ℕ) → w l ≡ Else k → p.says l ≡ Else k) →
    ((x : Thing) → Memᴰ x g → (ls : List Bytes) → Memᴰ ls (rows_of x) → limits_hold p.says ls ≡ true → limits_hold w ls ≡ true) →
    can p g ≡ true → can (record { says = w; takes = p.takes; uses = p.uses }) g ≡ true

-- What is shown has no more yeses than lines, and so by the policy of today no more than the house reads.
abbrev pub FewYeses : Type 0
FewYeses =
    ((p : Policy) (g : List Thing) (s : Shown) → shows p g ≡ Some s → length s.yeses ≤ length s.ticket.lines) ×
    ((v : Meaning) (g : List Thing) (s : Shown) → shows (today v) g ≡ Some s → length s.yeses ≤ most_yeses)
