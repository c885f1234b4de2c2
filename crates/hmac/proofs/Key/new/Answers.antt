use Rattle.std.proofs.Common.{◌≡◌, length, lit<, refl, rules}
use Rattle.hmac.proofs.Key.new.Goals as goal

pub returns : goal.returns
returns c =
    let b = c.args.key.bytes in
    let n : length b ≡ 32 = search rules in
    record {
      long = n;
      inner_is = c.midstate-inner.ensures 0x36 b (lit< tt) refl n (search rules) c.from_bytes-words.ensures;
      outer_is = c.midstate-outer.ensures 0x5c b (lit< tt) refl n (search rules) c.from_bytes-words.ensures;
    }
