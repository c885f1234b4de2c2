use Rattle.std.proofs.Common.{length, refl}
use Rattle.rows.proofs.Writes.{put_behind}
use Rattle.rows.proofs.adding.put_line.Goals as goal

pub returns : goal.returns
returns c =
    let put = put_behind c.args.out.now c.args.line.now (length c.args.line.now) c.requires.1 in
    let after = c.copy_from_slice.ensures.after in
    record { value = refl; after = cc }
