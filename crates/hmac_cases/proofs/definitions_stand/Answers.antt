use Rattle.std.proofs.Common.{refl}
use Rattle.hmac.specs.Hmac.{mixed, hmac_of}
use Rattle.sha256.specs.Sha256.{extended, schedule, round, rounds, compressed, word, words, absorbed, eight, padding, padded, bytes, sha256}
use Rattle.hmac_cases.proofs.definitions_stand.Goals as goal

pub returns : goal.returns
unfolding mixed hmac_of extended schedule round rounds compressed word words absorbed eight padding padded bytes sha256
returns c = record { digest = refl; mac = refl }
