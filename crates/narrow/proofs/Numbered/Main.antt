-- The main promise, put together of its parts.
-- Assumes nothing.
use Rattle.narrow.specs.Numbered.Promise.{Main}
use Rattle.narrow.proofs.Numbered.Sound.{sound, none_shown}
use Rattle.narrow.proofs.Numbered.Complete.{complete}
use Rattle.narrow.proofs.Numbered.Monotone.{line_less, more_given}

pub main_holds : Main
main_holds = (λ h q g. record { if_so = sound h q g; if_not = none_shown h q g; only_so = complete h q g }, (line_less, more_given))
