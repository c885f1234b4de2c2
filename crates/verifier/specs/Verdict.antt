-- What the house says of what is shown, under its secrets. Assumes nothing.
use Rattle.std.specs.Prelude.{ℕ, Bool, cond, List, map, is_some, Some, None, Ok, Err, Option, Result}
use Rattle.narrow.specs.Rows.{all}
use Rattle.narrow.specs.Term.{Bytes}
use Rattle.narrow.specs.Ticket as model
use Rattle.narrow.specs.TermBytes.{bytes_of}
use Rattle.narrow.specs.Can.{same_bytes}
use Rattle.lines.specs.declared.Fault.{Fault}
use Rattle.lines.specs.Meaning.{says}
use Rattle.lines.specs.Reading.{fault_number}
use Rattle.tickets.specs.Making.{Ticket, Tied}
use Rattle.tickets.specs.Made.{Secrets, by_hmac}
use Rattle.judging.specs.declared.Failing.TheVariants.{LimitFails, NoYes, NoneHolds}
use Rattle.judging.specs.Judged.{Judgement, judged}
use Rattle.showing.specs.Showing.{ShownView, shown_of}
use Rattle.verifier.specs.declared.Refusal.{Refusal}
use Rattle.verifier.specs.declared.Refusal.TheVariants.{Unread, WrongMac, UnknownKey, WrongTie, Unmet}

-- what the house says: the wish is let through, or why it is not
abbrev pub Verdict : Type 0
Verdict = Result (Unit {0}) Refusal

-- the number by which a refusal is told
abbrev pub refusal_number : Refusal → ℕ
refusal_number (Unread f) = fault_number f
refusal_number WrongMac = 5
refusal_number UnknownKey = 6
refusal_number WrongTie = 7
refusal_number (Unmet (LimitFails i)) = 8
refusal_number (Unmet (NoYes i)) = 9
refusal_number (Unmet (NoneHolds i)) = 10

-- the line that it is told of, from 0
abbrev pub refusal_place : Refusal → Option ℕ
refusal_place (Unread f) = None
refusal_place WrongMac = None
refusal_place UnknownKey = None
refusal_place WrongTie = None
refusal_place (Unmet (LimitFails i)) = Some i
refusal_place (Unmet (NoYes i)) = Some i
refusal_place (Unmet (NoneHolds i)) = Some i

-- the ticket's MAC is the bytes of its own term
abbrev pub right_mac : Secrets → Ticket → Bool
right_mac s t = same_bytes t.mac (bytes_of (by_hmac s) (model.ticket_mac t.of))

-- the house knows the key of each yes
abbrev pub known_keys : Secrets → List Tied → Bool
known_keys s ys = all (λ y. is_some (s.key y.of.key)) ys

-- each tie is the bytes of its own term
abbrev pub right_ties : Secrets → model.Ticket → List Tied → Bool
right_ties s t ys = all (λ y. same_bytes y.mac (bytes_of (by_hmac s) (model.tie_of t y.of))) ys

-- without their ties
abbrev pub untied : List Tied → List model.Yes
untied ys = map (λ y. y.of) ys

-- what the model calls shown
abbrev pub plainly : ShownView → model.Shown
plainly v = record { ticket = v.ticket.of; yeses = untied v.yeses }

-- the stage of lines
abbrev pub of_lines : Judgement → Verdict
of_lines (Ok _) = Ok tt
of_lines (Err f) = Err (Unmet f)

abbrev pub by_lines : ShownView → Verdict
by_lines v = of_lines (judged (says v.asked) v.ticket.of.lines (untied v.yeses))

-- the MACs first, then the keys, then the ties, then the lines
unfoldable pub verdict_on : Secrets → ShownView → Verdict
verdict_on s v =
    cond (right_mac s v.ticket)
    (cond (known_keys s v.yeses) (cond (right_ties s v.ticket.of v.yeses) (by_lines v) (Err WrongTie)) (Err UnknownKey))
    (Err WrongMac)

abbrev pub on_read : Secrets → Result ShownView Fault → Verdict
on_read s (Ok v) = verdict_on s v
on_read s (Err f) = Err (Unread f)

-- what the house says of any bytes whatever
unfoldable pub verdict : Secrets → Bytes → Verdict
verdict s bs = on_read s (shown_of bs)
