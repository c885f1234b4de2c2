use Rattle.std.proofs.Common.{◌<◌, length, rules}
use Rattle.std.proofs.lemmas.List.{get_or_default}
use Rattle.verifier.proofs.macs.Macs.last.Goals as goal

pub returns : goal.returns
returns c = λ d. let within : c.args.self.count < length c.args.self.each = search rules in get_or_default c.args.self.each c.args.self.count _ d within
