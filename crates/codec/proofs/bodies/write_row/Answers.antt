use Rattle.codec.proofs.Laid.{laid_last, laid_row}
use Rattle.codec.proofs.bodies.write_row.Goals as goal

pub returns : goal.returns
returns c = laid_last _ _ _ _ _ c.extend_from_slice.ensures.items (laid_row _ _ _ _ _ _ c.in_ok-push.ensures.items c.len.ensures.value c.wire.ensures)
