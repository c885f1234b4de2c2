use Rattle.std.proofs.Common.{sym, ap, ◌∙◌, arith, true-eqb, false-eqb}
use Rattle.std.specs.Str.Iter.{split_text, split_has_more, split_pattern}
use Rattle.parts.specs.Items.{items}
use Rattle.texts.specs.declared.Cause.TheVariants.{NoSuchMuseum}
use Rattle.words.proofs.Contents.{list_fails, list_told}
use Rattle.words.proofs.Listing.{no_number_yet, too_many, no_number, one_more, no_more}
use Rattle.texts.proofs.Steps.{exits, or_told}
use Rattle.words.proofs.content.museums_of.Goals as goal

pub loop-part-init : goal.loop-part-init
loop-part-init c =
    let it = c.into_iter-part-iterator.ensures.into_iter_gives in
    let made = c.split-part-items.ensures in
    no_number_yet c.new-list.ensures (ap split_has_more it ∙ made.has_more) (ap split_text it ∙ made.text) (ap split_pattern it ∙ made.pattern)

pub returns-then-is_full : goal.returns-then-is_full
returns-then-is_full c =
    list_fails c.args.word.now _ (too_many c.loop-part.invariant c.next.new.self c.in-Some.part c.in-Some.ensures.steps (true-eqb _ 8 c.if-is_full.ensures.value))

pub returns-in_err-number : goal.returns-in_err-number
returns-in_err-number c =
    exits c.from_residual.result _ _ c.from_residual.ensures.1
    ∙ list_fails c.args.word.now _
    (no_number c.loop-part.invariant c.next.new.self c.in-Some.part c.in-Some.ensures.steps (omega (arith, false-eqb _ 8 c.if-is_full.ensures.value, c.if-is_full.ensures.fits)) _ c.in_err-number.ensures)

pub loop-part-preserved : goal.loop-part-preserved
loop-part-preserved c =
    one_more c.loop-part.invariant c.next.new.self c.in-Some.part c.in-Some.ensures.steps (omega (arith, false-eqb _ 8 c.if-is_full.ensures.value, c.if-is_full.ensures.fits)) _ _ c.in_ok-number.ensures c.push.ensures.items

pub returns : goal.returns
returns c =
    let ms = no_more c.loop-part.invariant (sym c.in-None.ensures.steps.0) in
    or_told (λ m. items m) NoSuchMuseum c.new.result _ c.ok_or.ensures.value (list_told c.args.word.now _ ms c.new.result (rw c.as_slice.ensures.value at c.new.ensures))
