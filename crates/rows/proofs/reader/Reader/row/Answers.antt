use Rattle.std.proofs.Common.{◌≡◌, ◌+◌, ◌-◌, Err, sym, refl, ap, ◌∙◌, arith}
use Rattle.std.proofs.lemmas.Option.{MatchOption-at_some}
use Rattle.std.proofs.lemmas.Result.{err_from_is_err_and}
use Rattle.rows.specs.Row.{rows}
use Rattle.rows.specs.Standing.{pushed}
use Rattle.rows.specs.Rowing.{lines_from}
use Rattle.rows.proofs.Rowings.{wanting, row_none, row_many, row_left, lines_short, lines_refused, lines_on, lines_done}
use Rattle.rows.proofs.reader.Reader.row.Goals as goal

pub returns-in_err-count : goal.returns-in_err-count
returns-in_err-count c =
    let p = err_from_is_err_and c.from_residual.result c.from_residual.ensures.1 in
    let (short, same) = wanting _ _ _ _ _ c.in_err-count.ensures.value c.byte.ensures in
    rw (p.1, p.2) (record { read = row_none c.args.place c.args.self.now.rest.now short.0 ∙ ap Err same; place = tt })

pub returns-then-from-most_lines : goal.returns-then-from-most_lines
returns-then-from-most_lines c =
    let head = MatchOption-at_some _ _ _ c.in_ok-count.ensures.ok_part c.byte.ensures in
    record { read = row_many c.args.place c.args.self.now.rest.now c.in_ok-count.count c.byte.new.self.rest.now head (omega (arith, c.from.ensures, c.most_lines.ensures, c.if-from-most_lines.true)); place = tt }

pub loop-init : goal.loop-init
loop-init c = (refl, let z : c.in_ok-count.count - 0 ≡ c.in_ok-count.count = omega arith in rw z)

pub returns-in_err-line : goal.returns-in_err-line
returns-in_err-line c =
    let p = err_from_is_err_and c.from_residual-in_err-line.result c.from_residual-in_err-line.ensures.1 in
    let head = MatchOption-at_some _ _ _ c.in_ok-count.ensures.ok_part c.byte.ensures in
    let (short, same) = wanting _ _ _ _ _ c.in_err-line.ensures.value c.counted.ensures in
    rw (p.1, p.2)
    (record {
      read =
          row_left c.args.place c.new-lines.result.place c.args.self.now.rest.now c.byte.new.self.rest.now c.in_ok-count.count c.loop.counter (rows c.loop.lines) c.loop.self.rest.now
          head (omega (arith, c.from.ensures, c.most_lines.ensures, c.if-from-most_lines.false)) c.new-lines.ensures.place (rows c.new-lines.result) c.new-lines.ensures.lines c.loop.invariant.1 ∙
          (lines_short c.args.place (c.in_ok-count.count - c.loop.counter) (rows c.loop.lines) c.loop.self.rest.now (omega (arith, c.loop-test.true)) short ∙ ap Err same);
      place = tt;
    })

pub returns-in_err-push : goal.returns-in_err-push
returns-in_err-push c =
    let p = err_from_is_err_and c.from_residual-in_err-push.result c.from_residual-in_err-push.ensures.1 in
    let head = MatchOption-at_some _ _ _ c.in_ok-count.ensures.ok_part c.byte.ensures in
    let line = MatchOption-at_some _ _ _ c.in_ok-line.ensures.ok_part c.counted.ensures in
    let place = c.loop.invariant.0 ∙ c.new-lines.ensures.place in
    rw (p.1, p.2)
    (record {
      read =
          row_left c.args.place c.new-lines.result.place c.args.self.now.rest.now c.byte.new.self.rest.now c.in_ok-count.count c.loop.counter (rows c.loop.lines) c.loop.self.rest.now
          head (omega (arith, c.from.ensures, c.most_lines.ensures, c.if-from-most_lines.false)) c.new-lines.ensures.place (rows c.new-lines.result) c.new-lines.ensures.lines c.loop.invariant.1 ∙
          lines_refused c.args.place (c.in_ok-count.count - c.loop.counter) (rows c.loop.lines) c.loop.self.rest.now (omega (arith, c.loop-test.true)) _ _ line _
          (ap (λ r. pushed r (rows c.loop.lines) c.in_ok-line.line.now) (sym place) ∙ c.in_err-push.ensures.added.0);
      place = tt;
    })

pub loop-preserved : goal.loop-preserved
loop-preserved c =
    let one : c.in_ok-count.count - c.loop.counter - 1 ≡ c.in_ok-count.count - (c.loop.counter + 1) = omega arith in
    let line = MatchOption-at_some _ _ _ c.in_ok-line.ensures.ok_part c.counted.ensures in (
      c.in_ok-push.ensures.place ∙ c.loop.invariant.0,
      c.loop.invariant.1 ∙
          (lines_on c.new-lines.result.place (c.in_ok-count.count - c.loop.counter) (rows c.loop.lines) c.loop.self.rest.now (omega (arith, c.loop-test.true)) _ _ line
          (rows c.push.new.self) (ap (λ r. pushed r (rows c.loop.lines) c.in_ok-line.line.now) (sym c.loop.invariant.0) ∙ c.in_ok-push.ensures.added) ∙
          ap (λ n. lines_from c.new-lines.result.place n (rows c.push.new.self) c.counted.new.self.rest.now) one),
    )

pub returns : goal.returns
returns c =
    let head = MatchOption-at_some _ _ _ c.in_ok-count.ensures.ok_part c.byte.ensures in
    record {
      read =
          row_left c.args.place c.new-lines.result.place c.args.self.now.rest.now c.byte.new.self.rest.now c.in_ok-count.count c.loop.counter (rows c.loop.lines) c.loop.self.rest.now
          head (omega (arith, c.from.ensures, c.most_lines.ensures, c.if-from-most_lines.false)) c.new-lines.ensures.place (rows c.new-lines.result) c.new-lines.ensures.lines c.loop.invariant.1 ∙
          lines_done c.args.place (c.in_ok-count.count - c.loop.counter) (rows c.loop.lines) c.loop.self.rest.now (omega (arith, c.loop-test.false));
      place = c.loop.invariant.0 ∙ c.new-lines.ensures.place;
    }
