use Rattle.std.proofs.Common.{◌≡◌, List, ◌++◌, map, length, vec_items, sym, ap, ◌∙◌}
use Rattle.std.proofs.lemmas.List.{length-map}
use Rattle.tickets.specs.declared.TiedYes.{TiedYes}
use Rattle.tickets.specs.Views.{ticket_view, tied_view}
use Rattle.wishes.specs.Format.{wish_bytes}
use Rattle.wishes.specs.Views.{wish_view}
use Rattle.codec.specs.Format.{write_several, wish, behind, both, named, counted}
use Rattle.codec.specs.Things.{ticket, tied}
use Rattle.showing.proofs.Several.{laid_shown}
use Rattle.showing.proofs.shown.Shown.to_bytes.Goals as goal

pub returns : goal.returns
unfolding wish behind both named counted
returns c =
    let self = c.args.self.now in
    let yeses = vec_items self.yeses in
    let many : c.len.result ≡ length (map tied_view yeses) = c.len.ensures ∙ (self.yeses.ok.0 ∙ sym (length-map yeses tied_view)) in
    laid_shown _ _ _ _ _ _ _ (length (map tied_view yeses)) _ (wish_bytes (wish_view self.wish)) _ (ticket.write (ticket_view self.ticket)) (write_several tied.write (map tied_view yeses))
    c.new-out.ensures.items c.in_ok-push.ensures.items
    c.in_ok-extend_from_slice.ensures.items (c.as_slice.ensures.value ∙ c.in_ok-wish_bytes.ensures)
    c.in_ok-write.ensures
    c.in_ok-push-2.ensures.items many
    (c.in_ok-write_all.ensures ∙ ap (λ (ys : List TiedYes). vec_items c.push-2.new.self ++ write_several tied.write (map tied_view ys)) c.as_slice-2.ensures.value)
