use Rattle.std.proofs.Common.{map, Ok, sym, ap, ◌∙◌, subst}
use Rattle.lines.specs.Views.{line_view}
use Rattle.making.specs.Cuts.{lines_in, none_of, limits_in}
use Rattle.statements.specs.Views.{lines_view}
use Rattle.trouble.specs.Told.{Told}
use Rattle.making.proofs.cuts.limits_in.Goals as goal

pub returns-in-None : goal.returns-in-None
unfolding limits_in
returns-in-None c = ap (λ v. Ok (map line_view v)) c.new.ensures.items ∙ ap (λ ws. none_of ws (lines_in c.args.text.now)) (sym c.in-None.ensures)

pub returns-in-Some : goal.returns-in-Some
unfolding limits_in
returns-in-Some c = subst (Told lines_view c.lines_in.result) (ap (λ ws. none_of ws (lines_in c.args.text.now)) (sym c.in-Some.ensures)) c.lines_in.ensures
