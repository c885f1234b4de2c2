use Rattle.std.proofs.Common.{◌≡◌, length, vec_len, ◌∙◌}
use Rattle.wishes.specs.Format.{wish_bytes}
use Rattle.wishes.specs.Views.{wish_view}
use Rattle.showing.proofs.Several.{written_all, written_whole}
use Rattle.showing.proofs.writing.wish_bytes.Goals as goal

pub unwrap-requires : goal.unwrap-requires
unwrap-requires c =
    let size : vec_len c.in_ok-out.out ≡ length (wish_bytes (wish_view c.args.wish)) = c.in_ok-out.ensures.len ∙ c.len.ensures in
    written_whole (wish_bytes (wish_view c.args.wish)) _ c.write.new.out c.write.result c.write.ensures.writes (c.as_mut_slice.ensures.len ∙ size)

pub returns : goal.returns
returns c =
    let size : vec_len c.in_ok-out.out ≡ length (wish_bytes (wish_view c.args.wish)) = c.in_ok-out.ensures.len ∙ c.len.ensures in
    written_all (wish_bytes (wish_view c.args.wish)) _ c.write.new.out c.write.result _ _ c.write.ensures.writes (c.as_mut_slice.ensures.len ∙ size) size
