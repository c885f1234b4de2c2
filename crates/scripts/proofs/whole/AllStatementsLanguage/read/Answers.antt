use Rattle.std.proofs.Common.{ap, rules}
use Rattle.std.specs.Option.{option_map}
use Rattle.statements.specs.Views.{stated}
use Rattle.trouble.proofs.Chains.{hands_on}
use Rattle.scripts.specs.Rules.{alone, placed}
use Rattle.scripts.proofs.Placing.{renamed, out_of_place, in_place}
use Rattle.scripts.proofs.whole.AllStatementsLanguage.read.Goals as goal

pub returns-in_err-statement : goal.returns-in_err-statement
returns-in_err-statement c =
    let h = renamed c.args.code.now c.read_statement.result c.map_err.result c.map_err.ensures.cases (λ e t k. search rules) c.read_statement.ensures in
    hands_on (option_map stated) c.from_residual.result (option_map stated) (alone c.args.code.now) c.in_err-statement.field-0.0 c.from_residual.ensures.1 (rw c.in_err-statement.was at h) (λ k e. ap (placed c.args.begun) e)

pub returns-in_default : goal.returns-in_default
returns-in_default c =
    let h = renamed c.args.code.now c.read_statement.result c.map_err.result c.map_err.ensures.cases (λ e t k. search rules) c.read_statement.ensures in
    ap (placed c.args.begun) (rw (c.in_ok-statement.was, c.in_default.is) at h)

pub returns-then-opens_house-begun : goal.returns-then-opens_house-begun
returns-then-opens_house-begun c =
    let h = renamed c.args.code.now c.read_statement.result c.map_err.result c.map_err.ensures.cases (λ e t k. search rules) c.read_statement.ensures in
    rw c.into.ensures (out_of_place c.args.begun c.args.code.now (stated c.in-Some.statement) (rw (c.in_ok-statement.was, c.in-Some.is) at h) c.opens_house.result c.opens_house.ensures c.if-opens_house-begun.true)

pub returns : goal.returns
returns c =
    let h = renamed c.args.code.now c.read_statement.result c.map_err.result c.map_err.ensures.cases (λ e t k. search rules) c.read_statement.ensures in
    in_place c.args.begun c.args.code.now (stated c.in-Some.statement) (rw (c.in_ok-statement.was, c.in-Some.is) at h) c.opens_house.result c.opens_house.ensures c.if-opens_house-begun.false
