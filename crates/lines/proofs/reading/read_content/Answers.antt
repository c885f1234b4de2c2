use Rattle.std.proofs.Common.{arith}
use Rattle.parts.specs.Items.{items}
use Rattle.lines.proofs.ByKind.{museums, days, minutes, name, not_counted, not_span, not_persons, not_else, counted_line, span_line, persons_line, else_line}
use Rattle.lines.proofs.reading.read_content.Goals as goal

pub returns-in_err-read_counted-in-Museums : goal.returns-in_err-read_counted-in-Museums
returns-in_err-read_counted-in-Museums c =
    rw (c.in-Museums.is, c.from_residual.ensures) (not_counted museums c.args.content.now c.in_err-read_counted-in-Museums.ensures)

pub returns-in_err-read_span-in-Days : goal.returns-in_err-read_span-in-Days
returns-in_err-read_span-in-Days c =
    rw (c.in-Days.is, c.from_residual-in_err-read_span-in-Days.ensures) (not_span days c.args.content.now c.in_err-read_span-in-Days.ensures)

pub returns-in_err-read_span-in-Minutes : goal.returns-in_err-read_span-in-Minutes
returns-in_err-read_span-in-Minutes c =
    rw (c.in-Minutes.is, c.from_residual-in_err-read_span-in-Minutes.ensures)
    (not_span minutes c.args.content.now c.in_err-read_span-in-Minutes.ensures)

pub returns-in_err-read_persons-in-Persons : goal.returns-in_err-read_persons-in-Persons
returns-in_err-read_persons-in-Persons c =
    rw (c.in-Persons.is, c.from_residual-in_err-read_persons-in-Persons.ensures) (not_persons c.args.content.now c.in_err-read_persons-in-Persons.ensures)

pub returns-in_err-read_counted-in-Name : goal.returns-in_err-read_counted-in-Name
returns-in_err-read_counted-in-Name c =
    rw (c.in-Name.is, c.from_residual-in_err-read_counted-in-Name.ensures) (not_counted name c.args.content.now c.in_err-read_counted-in-Name.ensures)

pub returns-in_err-read_key-in-Else : goal.returns-in_err-read_key-in-Else
returns-in_err-read_key-in-Else c =
    rw (c.in-Else.is, c.from_residual-in_err-read_key-in-Else.ensures) (not_else c.args.content.now c.in_err-read_key-in-Else.ensures)

pub returns-in_ok-read_counted-in-Museums : goal.returns-in_ok-read_counted-in-Museums
returns-in_ok-read_counted-in-Museums c =
    let read = c.in_ok-read_counted-in-Museums.field-0 in
    rw c.in-Museums.is (counted_line museums c.args.content.now (items read) read.possible c.in_ok-read_counted-in-Museums.ensures)

pub returns-in_ok-read_span-in-Days : goal.returns-in_ok-read_span-in-Days
returns-in_ok-read_span-in-Days c =
    let read = c.in_ok-read_span-in-Days.field-0 in
    rw c.in-Days.is (span_line days c.args.content.now read.from read.to read.ordered c.in_ok-read_span-in-Days.ensures (omega (arith, c.type_inv.content 2)))

pub returns-in_ok-read_span-in-Minutes : goal.returns-in_ok-read_span-in-Minutes
returns-in_ok-read_span-in-Minutes c =
    let read = c.in_ok-read_span-in-Minutes.field-0 in
    rw c.in-Minutes.is (span_line minutes c.args.content.now read.from read.to read.ordered c.in_ok-read_span-in-Minutes.ensures (omega (arith, c.type_inv.content 2)))

pub returns-in_ok-read_persons-in-Persons : goal.returns-in_ok-read_persons-in-Persons
returns-in_ok-read_persons-in-Persons c =
    rw c.in-Persons.is (persons_line c.args.content.now _ c.in_ok-read_persons-in-Persons.ensures (omega (arith, c.type_inv.content 0)))

pub returns-in_ok-read_counted-in-Name : goal.returns-in_ok-read_counted-in-Name
returns-in_ok-read_counted-in-Name c =
    let read = c.in_ok-read_counted-in-Name.field-0 in
    rw c.in-Name.is (counted_line name c.args.content.now (items read) read.possible c.in_ok-read_counted-in-Name.ensures)

pub returns-in-Else : goal.returns-in-Else
returns-in-Else c =
    let read = c.in_ok-read_key-in-Else.field-0 in
    rw c.in-Else.is (else_line c.args.content.now read.number read.known c.in_ok-read_key-in-Else.ensures)
