use Rattle.std.proofs.Common.{◌≡◌, length, Ok, sym, refl, ap, ◌∙◌, arith, length-drop, length-take, rules}
use Rattle.std.proofs.lemmas.Result.{err_from_is_err_and}
use Rattle.rows.specs.Row.{rows}
use Rattle.rows.proofs.Held.{row_count}
use Rattle.rows.proofs.Longer.{longer}
use Rattle.rows.proofs.Pushing.{push_unread, push_misplaced, push_full, push_added, stands_there}
use Rattle.rows.proofs.Short.{row_short, row_few, most_few, stands_short}
use Rattle.rows.proofs.row.Lines.push.Goals as goal

pub returns-in_err-read : goal.returns-in_err-read
returns-in_err-read c =
    let p = err_from_is_err_and c.from_residual.result c.from_residual.ensures.1 in
    rw (p.1, p.2)
    (record {
      added = (push_unread c.args.self.now.place (rows c.args.self.now) c.args.line.now _ (sym c.in_err-read.ensures.value), refl);
      place = refl;
    })

pub returns-then-not-may_stand : goal.returns-then-not-may_stand
returns-then-not-may_stand c =
    record {
      added = (push_misplaced c.args.self.now.place (rows c.args.self.now) c.args.line.now _ (sym c.in_ok-read.ensures.value) (sym c.if-not-may_stand.ensures), refl);
      place = refl;
    }

pub returns-then-count-most_lines : goal.returns-then-count-most_lines
returns-then-count-most_lines c =
    record {
      added = (
        push_full c.args.self.now.place (rows c.args.self.now) c.args.line.now _ (sym c.in_ok-read.ensures.value) (sym c.if-not-may_stand.ensures)
            (omega (arith, c.most_lines.ensures, c.if-count-most_lines.true, row_count c.args.self.now)),
        refl,
      );
      place = refl;
    }

pub slice_bounds-put_line-count : goal.slice_bounds-put_line-count
slice_bounds-put_line-count c = omega (arith, c.from-used.ensures, row_short c.args.self.now, row_few c.args.self.now)

pub slice_bounds-put_line-start : goal.slice_bounds-put_line-start
slice_bounds-put_line-start c = omega (arith, c.from-used.ensures, row_short c.args.self.now, row_few c.args.self.now)

pub put_line-size-requires : goal.put_line-size-requires
put_line-size-requires c =
    let long : length c.args.self.now.bytes ≡ 1120 = search rules in
    let good = stands_there c.args.self.now.place (rows c.args.self.now) c.args.line.now _ (sym c.in_ok-read.ensures.value) (sym c.if-not-may_stand.ensures) in
    let short = stands_short c.args.self.now.place c.args.line.now good in
    let marked = c.from-used.ensures in
    let used = row_short c.args.self.now in
    let most = most_few c.args.self.now.place in
    let room = c.most_lines.ensures in
    (omega arith, simp (length-take, length-drop) (omega arith))

pub invariant_of-self : goal.invariant_of-self
invariant_of-self c =
    let many : length c.args.self.now.marks ≡ 33 = search rules in
    let good = stands_there c.args.self.now.place (rows c.args.self.now) c.args.line.now _ (sym c.in_ok-read.ensures.value) (sym c.if-not-may_stand.ensures) in
    let most = most_few c.args.self.now.place in
    let room = c.most_lines.ensures in
    let a = longer c.args.self.now c.args.line.now (omega arith) good _ _ _ c.put_line-size.new.out _ c.from-used.ensures c.put_line-size.ensures.after c.put_line-size.ensures.value in
    record { few = omega arith; wired = a.wired; marked = a.marked; legible = a.legible }

pub returns : goal.returns
unfolding rows
returns c =
    let many : length c.args.self.now.marks ≡ 33 = search rules in
    let read = sym c.in_ok-read.ensures.value in
    let may = sym c.if-not-may_stand.ensures in
    let good = stands_there c.args.self.now.place (rows c.args.self.now) c.args.line.now _ read may in
    let most = most_few c.args.self.now.place in
    let room = c.most_lines.ensures in
    let a = longer c.args.self.now c.args.line.now (omega arith) good _ _ _ c.put_line-size.new.out _ c.from-used.ensures c.put_line-size.ensures.after c.put_line-size.ensures.value in
    record {
      added =
          push_added c.args.self.now.place (rows c.args.self.now) c.args.line.now _ read may (omega (arith, row_count c.args.self.now)) ∙ ap Ok (sym a.are);
      place = refl;
    }
