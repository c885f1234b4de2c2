use Rattle.sha256.proofs.Padding.{short_block}
use Rattle.sha256.proofs.words.short_block.Goals as goal

pub returns : goal.returns
returns c =
    let e = short_block c.args.message.now c.if-message-ge56.false in
    (c.if-message-ge56.false, cc)
