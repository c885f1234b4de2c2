-- The code's parts as the forms speak of them. Assumes nothing.
use Rattle.std.specs.Prelude.{Result}
use Rattle.texts.specs.declared.Cause.{Cause}
use Rattle.texts.specs.Results.{and_is}
use Rattle.making.specs.declared.cuts.Making.{Making}
use Rattle.making.specs.Cuts.{Parts}

-- parts that were read
abbrev pub parts_read : Result Making Cause → Result Parts Cause
parts_read r = and_is r (λ m. record { name = m.name.now; word = m.word.now; front = m.front.now; person = m.person.now })
