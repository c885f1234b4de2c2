use Rattle.std.proofs.Common.{[], get_or, rules}
use Rattle.sha256.proofs.FromFn.{map_gives}
use Rattle.hmac4.proofs.lanes.scatter.Goals as goal

pub returns : goal.returns
returns c =
    map_gives _ (λ v. get_or v c.args.l 0) c.args.v c.map.result _ 8 [] 0 (search rules) (λ x y q call. search rules) c.map.ensures.items
