-- What the lines of a ticket come to for a wish and yeses: whether all are met, and else the first that is not. Assumes nothing.
use Rattle.std.specs.Prelude.{ℕ, Bool, true, false, not, ◌&&◌, List, Some, None, Ok, Err, Option, Result, ◌==◌, nat_eq, position}
use Rattle.narrow.specs.Rows.{any}
use Rattle.narrow.specs.Term.{Bytes}
use Rattle.narrow.specs.Ticket.{Yes}
use Rattle.narrow.specs.Policy.{Says, Limit, Else, Unreadable, Meaning, holds}
use Rattle.judging.specs.declared.Failing.{Failing}
use Rattle.judging.specs.declared.Failing.TheVariants.{LimitFails, NoYes, NoneHolds}

-- there is a yes of the key
abbrev pub some_yes : List Yes → ℕ → Bool
some_yes ys k = any (λ y. nat_eq y.key k) ys

-- there is a yes of the key all of whose limits hold
abbrev pub some_holds : Meaning → List Yes → ℕ → Bool
some_holds v ys k = any (λ y. (y.key == k) && holds v y) ys

-- what is said is a limit that doesn't hold, or nothing that can be read
abbrev pub limit_fails : Says → Bool
limit_fails (Limit b) = not b
limit_fails (Else k) = false
limit_fails Unreadable = true

-- what is said is an else whose key doesn't pass
abbrev pub else_fails : (ℕ → Bool) → Says → Bool
else_fails passes (Limit b) = false
else_fails passes (Else k) = not (passes k)
else_fails passes Unreadable = false

-- all lines are met, or one is not
abbrev pub Judgement : Type 0
Judgement = Result (Unit {0}) Failing

-- the first place, or what else is to be said
abbrev pub placed : (ℕ → Failing) → Option ℕ → Judgement → Judgement
placed at None j = j
placed at (Some i) j = Err (at i)

-- limits first, then elses without a yes, then elses for which no yes's limits all hold; of each the line nearest the beginning
unfoldable pub judged : Meaning → List Bytes → List Yes → Judgement
judged v ls ys =
    placed LimitFails (position (λ l. limit_fails (v l)) ls)
    (placed NoYes (position (λ l. else_fails (some_yes ys) (v l)) ls)
    (placed NoneHolds (position (λ l. else_fails (some_holds v ys) (v l)) ls) (Ok tt)))
