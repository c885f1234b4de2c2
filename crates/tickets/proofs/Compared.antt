-- Tickets compared by their bytes are compared as the model's. Assumes nothing.
use Rattle.std.proofs.Common.{◌≡◌, ℕ, Bool, true, false, ◌&&◌, List, [], ◌++◌, length, drop, Decides, sym, ap, ◌∙◌, append-nil}
use Rattle.std.proofs.lemmas.Bool.{and_parts, and_from}
use Rattle.std.proofs.lemmas.Bool.Decides.{same_from_decides}
use Rattle.narrow.specs.Term.{Bytes}
use Rattle.narrow.specs.Ticket.{Ticket}
use Rattle.narrow.specs.Can.{same_ticket, extends}
use Rattle.narrow.proofs.Rows.{contradiction}
use Rattle.narrow.proofs.Can.{same_ticket_lem, extends_is}
use Rattle.numbers.specs.Bytes.{four_bytes}
use Rattle.numbers.specs.Widths.{four_bytes_same}
use Rattle.rows.specs.Wire.{wire}
use Rattle.rows.proofs.Wire.{wire_append, wire_begins, wire_same}

-- a ticket by its number and lines
abbrev pub numbered : ℕ → List Bytes → Ticket
numbered n ls = record { number = four_bytes n; lines = ls }

same_number : (m n : ℕ) → four_bytes m ≡ four_bytes n → m ≡ n
same_number m n e = (four_bytes_same m n [] [] (append-nil (four_bytes m) ∙ (e ∙ sym (append-nil (four_bytes n))))).0

module _ (m n : ℕ) (ls ms : List Bytes) where
  pub same_bodies : (a b : Bool) → Decides a (m ≡ n) → Decides b (wire ls ≡ wire ms) → a && b ≡ same_ticket (numbered m ls) (numbered n ms)
  same_bodies a b d e =
      same_from_decides (a && b) _ (
        λ q. let (one, two) = and_parts a b q in λ i. record { number = four_bytes (d.0 one i); lines = wire_same ls ms (e.0 two) i },
        λ q. and_from a b (d.1 (same_number m n (ap (λ (t : Ticket). t.number) q))) (e.1 (ap (λ (t : Ticket). wire t.lines) q)),
      )
      (same_ticket_lem (numbered m ls) (numbered n ms))

  pub begun_wires : m ≡ n → (b : Bool) → (b ≡ true → wire ls ≡ wire ms ++ drop (length (wire ms)) (wire ls)) × ((rest : Bytes) → wire ls ≡ wire ms ++ rest → b ≡ true) →
      b ≡ extends (numbered m ls) (numbered n ms)
  begun_wires e b d =
      same_from_decides b _ (
        λ q. let (more, longer, left) = wire_begins ls ms _ (d.0 q) in (ap four_bytes e, (more, longer)),
        λ q. d.1 (wire q.1.0) (ap wire q.1.1 ∙ wire_append ms q.1.0),
      )
      (extends_is (numbered m ls) (numbered n ms))

  pub other_base : (m ≡ n → ⊥) → false ≡ extends (numbered m ls) (numbered n ms)
  other_base ne = same_from_decides false _ (λ q. contradiction (cc), λ q. absurd (ne (same_number m n q.0))) (extends_is (numbered m ls) (numbered n ms))
