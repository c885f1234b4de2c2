use Rattle.hmac.proofs.Keying.{mac_is}
use Rattle.hmac.proofs.Key.mac.Goals as goal

pub returns : goal.returns
returns c =
    record {
      value = cc;
      keyed = λ key k. let e = mac_is key c.args.self.inner c.args.self.outer c.args.message.now k in cc;
    }
