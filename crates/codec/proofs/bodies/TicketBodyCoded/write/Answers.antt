use Rattle.std.proofs.Common.{vec_items, ◌++◌, ap, ◌∙◌}
use Rattle.narrow.specs.Term.{Bytes}
use Rattle.codec.specs.Format.{fixed, row, behind, both, only, named}
use Rattle.codec.proofs.Laid.{laid_kind}
use Rattle.codec.proofs.bodies.TicketBodyCoded.write.Goals as goal

pub returns : goal.returns
unfolding fixed row behind both only named
returns c =
    let kind = c.in_ok-push.ensures.items in
    let number = c.in_ok-extend_from_slice.ensures.items ∙ ap (λ (b : Bytes). vec_items c.push.new.self ++ b) c.to_bytes.ensures in
    laid_kind _ _ _ _ _ _ _ _ kind number c.write_row.ensures
