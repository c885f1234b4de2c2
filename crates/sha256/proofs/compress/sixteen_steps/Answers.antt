use Rattle.sha256.proofs.compress.sixteen_steps.Goals as goal

pub returns : goal.returns
returns g c l block h m u =
    c.four_steps.ensures l block h m (c.four_steps-v-3.ensures l block h m (c.four_steps-v-2.ensures l block h m (c.four_steps-v.ensures l block h m u)))
