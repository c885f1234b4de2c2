use Rattle.std.proofs.Common.{ℕ, ◌<◌, ◌/◌, [], length, get_or, sym, ◌∙◌, arith, rules}
use Rattle.std.specs.Int.{w32, from_be_bytes}
use Rattle.std.specs.Simd.{first_chunks}
use Rattle.std.proofs.lemmas.List.{ext_get_or}
use Rattle.sha256.specs.Sha256.{words}
use Rattle.sha256.proofs.Absorbing.{words_length, words_at, word_chunk}
use Rattle.sha256.proofs.FromFn.{from_fn_gives}
use Rattle.sha256.proofs.blocks.words.Goals as goal

pub returns : goal.returns
returns g c =
    let b = c.args.b.now in
    let n : ℕ = g.row.N in
    let made = c.from_fn.ensures.items in
    let word_of : ℕ → ℕ = λ i. from_be_bytes w32 (get_or (first_chunks 4 (length b / 4) b) i []) in
    ext_get_or 0 c.from_fn.result (words n b) (made.long ∙ sym (words_length n b)) (λ i h.
    let l : i < n = rw made.long at h in
    from_fn_gives _ word_of c.from_fn.result _ n (λ j y q call. search rules) made.each i 0 l ∙ word_chunk i (length b / 4) b [] (omega arith) ∙ sym (words_at n i b l))
