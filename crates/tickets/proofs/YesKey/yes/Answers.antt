use Rattle.std.proofs.Common.{◌≡◌, sym, subst}
use Rattle.rows.specs.Row.{rows}
use Rattle.tickets.specs.Making.{Yes, new_yes}
use Rattle.tickets.specs.Made.{AYes, Right}
use Rattle.tickets.proofs.Rightly.{right_yes}
use Rattle.tickets.proofs.YesKey.yes.Goals as goal

pub returns : goal.returns
unfolding new_yes
returns c =
    let key = c.args.self.number.number in
    let secret = c.args.self.secret.bytes in
    let made : ◌≡◌ {A = Yes} (record { of = record { key = key; lines = rows c.new-limits.result }; mac = c.mac-mac.result.bytes }) (new_yes key secret) =
    λ i. record { of = record { key = key; lines = c.new-limits.ensures.lines i }; mac = c.mac-mac.ensures i } in
    record { value = made; right = λ s r. subst (λ (y : Yes). Right s (AYes y)) (sym made) (right_yes s key secret r) }
