use Rattle.std.proofs.Common.{◌∙◌}
use Rattle.rows.proofs.Rowings.{some_weaker, some_both, part_short, part_whole}
use Rattle.rows.proofs.reader.Reader.counted.Goals as goal

pub returns : goal.returns
returns c =
    some_weaker c.part.result (some_both c.part.result _ _ _ c.part.ensures.front c.part.ensures.size)
    (λ h. part_short _ _ _ c.in_ok-size.ensures (rw c.from.ensures at h.0))
    (λ p h. part_whole _ _ _ c.in_ok-size.ensures _ _ (h.1 ∙ c.from.ensures) h.0)
