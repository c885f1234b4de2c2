use Rattle.std.proofs.Common.{◌≡◌, ℕ, ◌+◌, Bool, true, false, cond, List, ◌∷◌, length, Some, sym, refl, ap, ◌∙◌, arith}
use Rattle.std.specs.List.{position_from}
use Rattle.std.proofs.lemmas.Iterator.Adapters.{position_from-zero}
use Rattle.rows.specs.Row.{rows}
use Rattle.judging.proofs.first_failing.Goals as goal
use Rattle.judging.proofs.first_failing.Goals.{in-None, in-Some+then-fails}

-- the first line that is left fails, or it doesn't
here : {A : Type 0} (test : A → Bool) (i : ℕ) {x : A} {xs ys : List A} → ys ≡ x ∷ xs → true ≡ test x → position_from test i ys ≡ Some i
here test i {xs = xs} left fails = ap (position_from test i) left ∙ ap (λ b. cond b (Some i) (position_from test (i + 1) xs)) (sym fails)

later : {A : Type 0} (test : A → Bool) (i : ℕ) {x : A} {xs ys : List A} → ys ≡ x ∷ xs → false ≡ test x → position_from test i ys ≡ position_from test (i + 1) xs
later test i {xs = xs} left passes = ap (position_from test i) left ∙ ap (λ b. cond b (Some i) (position_from test (i + 1) xs)) (sym passes)

pub lines-init : goal.lines-init
lines-init g c = (
  refl,
  omega (arith, c.iter-line-items.ensures.bound),
  λ test says. position_from-zero test (rows c.args.lines.now) ∙ ap (position_from test 0) (sym c.iter-line-items.ensures.lines),
)

pub lines-preserved : goal.lines-preserved
lines-preserved g c = (
  c.lines.invariant.0,
  omega (arith, c.lines.invariant.1, ap length c.in-Some.ensures.steps),
  λ test says. c.lines.invariant.2 test says ∙ later test c.lines.place c.in-Some.ensures.steps (says _ _ c.if-fails.ensures),
)

pub returns : goal.returns
returns g c = elim c.match-next.branch [
  | in-None w ↦ λ test says. w.failing-is ∙ c.lines.invariant.0 ∙ sym (c.lines.invariant.2 test says ∙ ap (position_from test c.lines.place) w.in-None.ensures.steps.0)
  | in-Some+then-fails w ↦ λ test says. w.failing-is ∙ sym (c.lines.invariant.2 test says ∙ here test c.lines.place w.in-Some.ensures.steps (says _ _ w.if-fails.ensures))
]
