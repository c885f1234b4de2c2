use Rattle.std.proofs.Common.{◌+◌, map, vec_items, vec_len, Some, None, Ok, Err, sym, refl, ap, ◌∙◌}
use Rattle.std.specs.Str.Iter.{split_text, split_has_more, split_pattern}
use Rattle.std.specs.Iterator.Adapters.{enumerate_source, enumerate_count}
use Rattle.texts.proofs.Cuts.{to_come}
use Rattle.scripting.specs.Rules.{newline}
use Rattle.scripting.specs.Views.{numbered}
use Rattle.scripting.proofs.Comments.{aside}
use Rattle.scripting.proofs.LineByLine.{by_lines}
use Rattle.scripting.proofs.Lines.{after, no_line_yet, no_more, turn, nothing_said, one_more}
use Rattle.scripting.proofs.read_script.Goals as goal

pub loop-i-init : goal.loop-i-init
loop-i-init g c =
    let it = c.into_iter-i-iterator.ensures.into_iter_gives in
    let source = ap enumerate_source it ∙ c.enumerate-i-items.ensures.source in
    let made = c.split.ensures in
    let count = ap enumerate_count it ∙ c.enumerate-i-items.ensures.count in
    no_line_yet c.args.text.now c.new-statements.ensures.items count (ap split_has_more source ∙ made.has_more) (ap split_text source ∙ made.text) (ap split_pattern source ∙ made.pattern)

pub loop-i-preserved-in-Ok-None : goal.loop-i-preserved-in-Ok-None
loop-i-preserved-in-Ok-None g c =
    let h = turn c.loop-i.invariant c.next.new.self c.in-Some.i c.in-Some.line c.in-Some.ensures.steps (vec_len c.loop-i.statements) c.is_empty-begun.result c.code_of.result.now (Ok None) c.loop-i.statements.ok.0 c.is_empty-begun.ensures c.code_of.ensures (rw c.in-Ok-None.field-0-is at c.in-Ok-None.ensures) in
    nothing_said c.loop-i.invariant c.next.new.self c.in-Some.i c.in-Some.line c.in-Some.ensures.steps h

pub loop-i-preserved : goal.loop-i-preserved
loop-i-preserved g c =
    let h = turn c.loop-i.invariant c.next.new.self c.in-Some.i c.in-Some.line c.in-Some.ensures.steps (vec_len c.loop-i.statements) c.is_empty-begun.result c.code_of.result.now (Ok (Some (g.L.Language.stated c.in-Ok-Some.statement))) c.loop-i.statements.ok.0 c.is_empty-begun.ensures c.code_of.ensures (rw c.in-Ok-Some.field-0-is at c.in-Ok-Some.ensures) in
    one_more c.loop-i.invariant c.next.new.self c.in-Some.i c.in-Some.line c.in-Some.ensures.steps (vec_items c.push.new.self) _ c.in_ok-push-in-Ok-Some.ensures.items refl (rw c.in-Ok-Some.statement-is h)

pub returns-in-Err-Unreadable : goal.returns-in-Err-Unreadable
returns-in-Err-Unreadable g c =
    let h = turn c.loop-i.invariant c.next.new.self c.in-Some.i c.in-Some.line c.in-Some.ensures.steps (vec_len c.loop-i.statements) c.is_empty-begun.result c.code_of.result.now (Err c.in-Err-Unreadable.cause) c.loop-i.statements.ok.0 c.is_empty-begun.ensures c.code_of.ensures (rw c.in-Err-Unreadable.field-0-is at c.in-Err-Unreadable.ensures) in
    let e = ap (λ k. after g.L.Language.sense (map (numbered g.L.Language.stated) (vec_items c.loop-i.statements)) (c.in-Some.i + 1) (to_come newline (enumerate_source c.next.new.self)) (Err k)) c.in-Err-Unreadable.cause-is ∙ h in
    record { rules = e; line_by_line = by_lines g.L.Language.alone g.L.Language.sense g.met.L.Language.placed c.args.text.now _ e; comments_aside = aside g.L.Language.sense c.args.text.now _ e }

pub returns : goal.returns
returns g c =
    let h = no_more c.loop-i.invariant (sym c.in-None.ensures.steps.0.0) in
    record { rules = h; line_by_line = by_lines g.L.Language.alone g.L.Language.sense g.met.L.Language.placed c.args.text.now _ h; comments_aside = aside g.L.Language.sense c.args.text.now _ h }
