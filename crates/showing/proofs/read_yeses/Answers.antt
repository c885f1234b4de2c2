use Rattle.std.proofs.Common.{◌≡◌, ℕ, ◌+◌, ◌-◌, List, map, Err, vec_items, sym, ap, ◌∙◌, arith}
use Rattle.std.proofs.lemmas.List.{map_push}
use Rattle.std.proofs.lemmas.Option.{MatchOption-at_some}
use Rattle.std.proofs.lemmas.Result.{err_from_is_err_and}
use Rattle.narrow.specs.Policy.{most_yeses}
use Rattle.tickets.specs.Making.{Tied}
use Rattle.tickets.specs.Views.{tied_view}
use Rattle.rows.proofs.Rowings.{wanting}
use Rattle.codec.specs.Format.{read_several}
use Rattle.codec.specs.Things.{tied}
use Rattle.showing.proofs.Several.{after, after_on, after_stop, after_done, count_none, count_many, count_on}
use Rattle.showing.proofs.read_yeses.Goals as goal

pub returns-in_err-count : goal.returns-in_err-count
returns-in_err-count c =
    let p = err_from_is_err_and c.from_residual.result c.from_residual.ensures.1 in
    let (short, same) = wanting _ _ _ _ _ c.in_err-count.ensures.value c.byte.ensures in
    rw (p.1, p.2) (record { read = sym (count_none tied most_yeses c.args.reader.now.rest.now short.0 ∙ ap Err same); few = tt })

pub returns-then-count-gt32 : goal.returns-then-count-gt32
returns-then-count-gt32 c =
    let head = MatchOption-at_some _ _ _ c.in_ok-count.ensures.ok_part c.byte.ensures in
    rw c.into.ensures (record { read = sym (count_many tied most_yeses c.args.reader.now.rest.now _ _ head c.if-count-gt32.true); few = tt })

pub returns-in_err-yes : goal.returns-in_err-yes
returns-in_err-yes c =
    let p = err_from_is_err_and c.from_residual-in_err-yes.result c.from_residual-in_err-yes.ensures.1 in
    let head = MatchOption-at_some _ _ _ c.in_ok-count.ensures.ok_part c.byte.ensures in
    let left = c.in_ok-count.count - c.loop.counter in
    rw (p.1, p.2)
    (record {
      read =
          sym
          (count_on tied most_yeses c.args.reader.now.rest.now _ _ head (omega (arith, c.if-count-gt32.false)) ∙
          (c.loop.invariant.1 ∙ after_stop tied.read left _ c.loop.reader.rest.now (omega (arith, c.loop-test.true)) _ c.in_err-yes.ensures));
      few = tt;
    })

pub loop-preserved : goal.loop-preserved
loop-preserved c =
    let left = c.in_ok-count.count - c.loop.counter in
    let one : left - 1 ≡ c.in_ok-count.count - (c.loop.counter + 1) = omega arith in
    let items = map_push tied_view (vec_items c.loop.yeses) c.in_ok-yes.yes in (
      omega (arith, c.loop.invariant.0, c.in_ok-push.ensures.len),
      c.loop.invariant.1 ∙
          (after_on tied.read left _ c.loop.reader.rest.now (omega (arith, c.loop-test.true)) _ _ c.in_ok-yes.ensures ∙
          (ap (λ (xs : List Tied). after xs (read_several tied.read (left - 1) c.read.new.reader.rest.now)) (sym items ∙ ap (map tied_view) (sym c.in_ok-push.ensures.items)) ∙
          ap (λ (n : ℕ). after (map tied_view (vec_items c.push.new.self)) (read_several tied.read n c.read.new.reader.rest.now)) one)),
    )

pub returns : goal.returns
returns c =
    let head = MatchOption-at_some _ _ _ c.in_ok-count.ensures.ok_part c.byte.ensures in
    let left = c.in_ok-count.count - c.loop.counter in
    record {
      read =
          sym
          (count_on tied most_yeses c.args.reader.now.rest.now _ _ head (omega (arith, c.if-count-gt32.false)) ∙
          (c.loop.invariant.1 ∙ after_done tied.read left _ c.loop.reader.rest.now (omega (arith, c.loop-test.false))));
      few = omega (arith, c.loop.invariant.0, c.if-count-gt32.false, c.loop.auto.counter-end);
    }
