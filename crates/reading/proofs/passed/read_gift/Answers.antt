use Rattle.std.proofs.Common.{Ok, codes, sym, ap, ◌∙◌}
use Rattle.std.specs.Str.{bytes_eq}
use Rattle.std.proofs.lemmas.Bool.{cond-true, cond-false, not-true, not-false}
use Rattle.texts.specs.Cuts.{words_of}
use Rattle.reading.specs.Forms.{gift_said}
use Rattle.statements.specs.Said.{a_thing}
use Rattle.reading.specs.Views.{gift_view}
use Rattle.texts.proofs.Steps.{so, no, last_so, last_no}
use Rattle.trouble.proofs.Chains.{stops}
use Rattle.reading.proofs.passed.read_gift.Goals as goal

pub returns-in_err-name : goal.returns-in_err-name
unfolding gift_said
returns-in_err-name c = stops gift_view c.from_residual.result c.from_residual.ensures.1 (no _ c.in_err-name.ensures)

pub returns-then-ne : goal.returns-then-ne
unfolding gift_said
returns-then-ne c = so _ c.in_ok-name.ensures (ap (λ w. Ok (a_thing w, words_of c.in_ok-name.rest.now)) c.in_ok-from_str.ensures.ok ∙ sym (cond-false (bytes_eq c.in_ok-name.name.now (codes "key")) _ _ (not-true _ (sym c.if-ne.ensures))))

pub returns-in_err-key : goal.returns-in_err-key
unfolding gift_said
returns-in_err-key c =
    stops gift_view c.from_residual-in_err-key.result c.from_residual-in_err-key.ensures.1
    (so _ c.in_ok-name.ensures (no _ c.in_err-key.ensures ∙ sym (cond-true (bytes_eq c.in_ok-name.name.now (codes "key")) _ _ (not-false _ (sym c.if-ne.ensures)))))

pub returns-in_err-key_of : goal.returns-in_err-key_of
unfolding gift_said
returns-in_err-key_of c =
    stops gift_view c.from_residual-in_err-key_of.result c.from_residual-in_err-key_of.ensures.1
    (so _ c.in_ok-name.ensures (so _ c.in_ok-key.ensures (last_no _ c.in_err-key_of.ensures) ∙ sym (cond-true (bytes_eq c.in_ok-name.name.now (codes "key")) _ _ (not-false _ (sym c.if-ne.ensures)))))

pub returns : goal.returns
unfolding gift_said
returns c = so _ c.in_ok-name.ensures (so _ c.in_ok-key.ensures (last_so _ c.in_ok-key_of.ensures) ∙ sym (cond-true (bytes_eq c.in_ok-name.name.now (codes "key")) _ _ (not-false _ (sym c.if-ne.ensures))))
