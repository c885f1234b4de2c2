use Rattle.std.proofs.Common.{refl}
use Rattle.scripting.proofs.Cuts.{code_is}
use Rattle.scripting.proofs.code_of.Goals as goal

pub returns : goal.returns
returns c =
    let e = code_is c.args.line.now c.split_once.result _ refl c.split_once.ensures.cases in
    rw c.unwrap_or.ensures e
