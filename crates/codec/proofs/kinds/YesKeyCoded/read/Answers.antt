use Rattle.codec.specs.Things.{key_kind, key_number, mac}
use Rattle.codec.proofs.Steps.{pair_kind, pair_first, pair_second, pair_on}
use Rattle.codec.proofs.kinds.YesKeyCoded.read.Goals as goal

pub returns-in_err-read_kind : goal.returns-in_err-read_kind
returns-in_err-read_kind c = pair_kind key_kind key_number mac _ c.from_residual.result c.from_residual.ensures.1 c.in_err-read_kind.ensures

pub returns-in_err-number : goal.returns-in_err-number
returns-in_err-number c = pair_first key_kind key_number mac _ c.from_residual-in_err-number.result c.from_residual-in_err-number.ensures.1 c.in_ok-read_kind.ensures c.in_err-number.ensures

pub returns-in_err-secret : goal.returns-in_err-secret
returns-in_err-secret c = pair_second key_kind key_number mac _ c.from_residual-in_err-secret.result c.from_residual-in_err-secret.ensures.1 c.in_ok-read_kind.ensures c.in_ok-number.ensures c.in_err-secret.ensures

pub returns : goal.returns
returns c = pair_on key_kind key_number mac c.in_ok-read_kind.ensures c.in_ok-number.ensures c.in_ok-secret.ensures
