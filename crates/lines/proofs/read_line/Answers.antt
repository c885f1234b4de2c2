use Rattle.std.proofs.Common.{◌≡◌, ℕ, ◌-◌, ◌<◌, List, ◌∷◌, length, get_or, take, drop, Some, None, Option, Result, refl, sym, ap, ◌∙◌, subst, arith, rules}
use Rattle.std.proofs.lemmas.Slice.{first_rest}
use Rattle.std.proofs.lemmas.Result.{err_from_is_err_and}
use Rattle.numbers.specs.Places.{AreBytes}
use Rattle.parts.specs.Limits.{LineView}
use Rattle.std.specs.Option.{ok_or, option_map}
use Rattle.lines.specs.declared.Fault.{Fault}
use Rattle.lines.specs.declared.Fault.TheVariants.{Unreadable}
use Rattle.lines.specs.declared.Line.{Line}
use Rattle.lines.specs.Views.{line_view, line_read}
use Rattle.lines.specs.Reading.{line_of}
use Rattle.lines.specs.Shapes.{Tells}
use Rattle.lines.proofs.ByKind.{no_line, no_kind}
use Rattle.lines.proofs.Told.{told}
use Rattle.lines.proofs.read_line.Goals as goal

-- bytes by their kind and their content
kind_first : (bs : List ℕ) → 0 < length bs → line_of (get_or bs 0 0 ∷ take (length bs - 1) (drop 1 bs)) ≡ line_of bs
kind_first bs some = ap line_of (sym (first_rest bs 0 some))

-- what is read is told by the format
abbrev Both : List ℕ → Result LineView Fault → Type 0
Both bs r = record { value : r ≡ line_of bs; told : Tells bs r }

both : (bs : List ℕ) (r : Result LineView Fault) → AreBytes bs → r ≡ line_of bs → Both bs r
both bs r bytes e = record { value = e; told = subst (Tells bs) (sym e) (told bs bytes) }

pub returns-in_default : goal.returns-in_default
returns-in_default c = both c.args.bytes.now _ (λ i. omega (arith, c.type_inv.bytes i)) (no_line c.args.bytes.now (search rules))

-- what is read of a content, and what of the line
read_or : (o : Option Line) (r : Result Line Fault) → r ≡ ok_or o Unreadable → line_read r ≡ ok_or (option_map line_view o) Unreadable
read_or None r e = rw e refl
read_or (Some l) r e = rw e refl

pub returns-in_err-kind : goal.returns-in_err-kind
returns-in_err-kind c =
    let p = err_from_is_err_and c.from_residual.result c.from_residual.ensures.1 in
    let none = c.in_err-kind.ensures in
    rw (p.1, p.2, none.0)
    (both c.args.bytes.now _ (λ i. omega (arith, c.type_inv.bytes i)) (no_kind (get_or c.args.bytes.now 0 0) _ none.1 ∙ kind_first c.args.bytes.now (search rules)))

pub returns : goal.returns
returns c =
    let bytes = c.args.bytes.now in
    let content = take (length bytes - 1) (drop 1 bytes) in
    let first = ap (λ (k : ℕ). line_of (k ∷ content)) (sym c.in_ok-kind.ensures) in
    both bytes _ (λ i. omega (arith, c.type_inv.bytes i))
    (read_or c.read_content.result c.ok_or.result c.ok_or.ensures.value ∙ c.read_content.ensures ∙ first ∙ kind_first bytes (search rules))
