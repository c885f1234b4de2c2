use Rattle.std.proofs.Common.{◌≡◌, List, ◌∷◌, ◌++◌, length, vec_items, sym, ap, ◌∙◌, append_assoc, append-nil, arith}
use Rattle.std.proofs.lemmas.List.{length-map}
use Rattle.narrow.specs.Term.{Bytes}
use Rattle.numbers.specs.Bytes.{two_bytes}
use Rattle.hmac.specs.declared.Mac.{Mac}
use Rattle.parts.specs.declared.KeyNumber.{KeyNumber}
use Rattle.codec.specs.Format.{fixed, two_byte, behind, both, named, write_several}
use Rattle.codec.specs.Things.{key}
use Rattle.codec.proofs.Laid.{laid_two}
use Rattle.book.specs.Booking.{book_kind}
use Rattle.book.specs.Keys.{book_keys}
use Rattle.book.specs.Entries.{entry_view, keys_view}
use Rattle.book.proofs.Few.{few_keys, known_keys}
use Rattle.book.proofs.held.Book.to_bytes.Goals as goal

pub overflow_cast-len : goal.overflow_cast-len
overflow_cast-len c =
    let self = c.args.self.now in
    let es = self.keys.entries in
    omega (arith, c.len.ensures.len, few_keys (keys_view es) self.apart (known_keys es), length-map es entry_view)

pub loop-number-preserved : goal.loop-number-preserved
unfolding write_several
loop-number-preserved c =
    let out = vec_items c.loop-number.out in
    let rest = write_several key.write (keys_view c.next.new.self) in
    ap (λ (b : Bytes). b ++ rest) c.in_ok-write.ensures ∙
    (append_assoc out (key.write (c.in-Some.number.now.number, c.in-Some.secret.now.bytes)) rest ∙
    (ap (λ (es : List (KeyNumber × Mac)). out ++ write_several key.write (keys_view es)) (sym c.in-Some.ensures.steps) ∙ c.loop-number.invariant))

pub returns : goal.returns
unfolding fixed two_byte behind both named book_keys write_several
returns c =
    let self = c.args.self.now in
    let ks = keys_view self.keys.entries in
    let out = vec_items c.loop-number.out in
    let many : c.len.result ≡ length ks = c.len.ensures.len ∙ sym (length-map self.keys.entries entry_view) in
    let head : vec_items c.extend_from_slice-2.new.self ≡ book_kind ∷ (self.house.bytes ++ two_bytes (length ks)) =
    laid_two _ _ _ _ _ _ c.new-out.ensures.items c.in_ok-push.ensures.items c.in_ok-extend_from_slice.ensures.items c.bytes.ensures
    _ _ _ c.in_ok-extend_from_slice-2.ensures.items (c.to_bytes.ensures ∙ ap two_bytes many) in
    sym (append-nil out) ∙
    (ap (λ (es : List (KeyNumber × Mac)). out ++ write_several key.write (keys_view es)) (sym c.in-None.ensures.steps.0) ∙
    (c.loop-number.invariant ∙
    (ap (λ (b : Bytes). b ++ write_several key.write ks) head ∙
    ap (λ (b : Bytes). book_kind ∷ b) (append_assoc self.house.bytes (two_bytes (length ks)) (write_several key.write ks)))))
