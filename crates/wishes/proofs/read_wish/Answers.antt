use Rattle.std.proofs.Common.{rules, ◌≡◌, ℕ, ◌-◌, ◌<◌, ◌≤◌, List, ◌∷◌, length, get_or, take, drop, sym, ap, ◌∙◌, arith, length-drop, take-append-drop}
use Rattle.std.proofs.lemmas.List.{take_rest}
use Rattle.numbers.proofs.Bytes.{by_places}
use Rattle.wishes.proofs.Decoding.{wish_too_short, wish_other_kind, wish_cut, wish_whole}
use Rattle.wishes.proofs.read_wish.Goals as goal

-- what follows the first two
abbrev after_two : List ℕ → List ℕ
after_two xs = take (length xs - 2) (drop 2 xs)

after_two_length : (xs : List ℕ) → length (after_two xs) ≡ length xs - 2
after_two_length xs = rw take_rest (length-drop 2 xs)

first_two : (xs : List ℕ) → 2 ≤ length xs → xs ≡ get_or xs 0 0 ∷ get_or xs 1 0 ∷ after_two xs
first_two xs long = by_places 2 xs long ∙ ap (λ (rest : List ℕ). get_or xs 0 0 ∷ get_or xs 1 0 ∷ rest) (sym (take_rest xs 2))

pub returns-in_default : goal.returns-in_default
returns-in_default c = let short : length c.args.bytes.now < 2 = search rules in wish_too_short c.args.bytes.now (omega arith)

pub returns-then-kind-ne-WISH_KIND : goal.returns-then-kind-ne-WISH_KIND
returns-then-kind-ne-WISH_KIND c = wish_other_kind c.args.bytes.now c.if-kind-ne-WISH_KIND.true

pub returns-in_err-day : goal.returns-in_err-day
returns-in_err-day c =
    let short : length (after_two c.args.bytes.now) < 2 = c.in_err-day.ensures in
    rw c.from_residual.ensures (wish_too_short c.args.bytes.now (omega (arith, after_two_length c.args.bytes.now)))

pub returns-in_err-minute : goal.returns-in_err-minute
returns-in_err-minute c =
    let short : length c.in_ok-day.rest.now < 2 = c.in_err-minute.ensures in
    rw c.from_residual-in_err-minute.ensures
    (wish_too_short c.args.bytes.now (omega (arith, after_two_length c.args.bytes.now, ap length c.in_ok-day.ensures)))

pub returns-in_default-rest : goal.returns-in_default-rest
returns-in_default-rest c =
    wish_too_short c.args.bytes.now
    (omega (arith, c.in_default-rest.len_below, after_two_length c.args.bytes.now, ap length c.in_ok-day.ensures, ap length c.in_ok-minute.ensures))

pub returns-in_err-name : goal.returns-in_err-name
returns-in_err-name c =
    let bytes = c.args.bytes.now in
    let last = c.in_ok-minute.rest.now in
    let front = first_two bytes (search rules) in
    let day = c.in_ok-day.ensures in
    let minute = c.in_ok-minute.ensures in
    let name = first_two last (search rules) in
    rw c.from_residual-in_err-name.ensures
    (wish_cut bytes (after_two last) (get_or bytes 0 0) (get_or bytes 1 0) c.in_ok-day.day c.in_ok-minute.minute (get_or last 0 0) c.from.result (cc) c.in_err-name.ensures.cases)

pub returns : goal.returns
returns c =
    let bytes = c.args.bytes.now in
    let last = c.in_ok-minute.rest.now in
    let front = first_two bytes (search rules) in
    let day = c.in_ok-day.ensures in
    let minute = c.in_ok-minute.ensures in
    let name = first_two last (search rules) in
    let (room, front_is, rest_is, long, more) = c.in_ok-name.ensures.cases in
    wish_whole bytes (after_two last) c.in_ok-name.name.now c.in_ok-name.rest.now (get_or bytes 0 0) (get_or bytes 1 0) c.in_ok-day.day c.in_ok-minute.minute
    (get_or last 0 0) c.from.result (cc) c.if-kind-ne-WISH_KIND.false long (search (rules, take-append-drop))
