use Rattle.std.proofs.Common.{rules}
use Rattle.lines.specs.Views.{limit_view}
use Rattle.parts.specs.Items.{items}
use Rattle.parts.specs.Limits.{MuseumIn, DayIn, MinuteIn, PersonsUpTo, NameIs}
use Rattle.texts.specs.Cuts.{words_of}
use Rattle.texts.specs.Numerals.{number_of}
use Rattle.words.specs.Lines.{museums_of, span_of, name_of, limit_of}
use Rattle.words.proofs.FirstWords.{chained, limit_at, at_none}
use Rattle.words.proofs.parse_limit.Goals as goal

pub returns-in-museums : goal.returns-in-museums
unfolding limit_of
returns-in-museums c =
    chained museums_of MuseumIn (λ w. w.now) (λ m. items m) limit_view c.only_word.result c.and_then.result c.map.result c.only_word.ensures (limit_at (words_of c.args.rest.now) c.in-museums.is)
    c.and_then.ensures c.map.ensures.cases (λ w k. search rules) (λ y z k. search rules)

pub returns-in-days : goal.returns-in-days
unfolding limit_of
returns-in-days c =
    chained span_of (λ s. DayIn s.0 s.1) (λ w. w.now) (λ s. (s.from, s.to)) limit_view c.only_word-in-days.result c.and_then-in-days.result c.map-in-days.result c.only_word-in-days.ensures (limit_at (words_of c.args.rest.now) c.in-days.is)
    c.and_then-in-days.ensures c.map-in-days.ensures.cases (λ w k. search rules) (λ y z k. search rules)

pub returns-in-minutes : goal.returns-in-minutes
unfolding limit_of
returns-in-minutes c =
    chained span_of (λ s. MinuteIn s.0 s.1) (λ w. w.now) (λ s. (s.from, s.to)) limit_view c.only_word-in-minutes.result c.and_then-in-minutes.result c.map-in-minutes.result c.only_word-in-minutes.ensures (limit_at (words_of c.args.rest.now) c.in-minutes.is)
    c.and_then-in-minutes.ensures c.map-in-minutes.ensures.cases (λ w k. search rules) (λ y z k. search rules)

pub returns-in-persons : goal.returns-in-persons
unfolding limit_of
returns-in-persons c =
    chained (number_of 255) PersonsUpTo (λ w. w.now) (λ n. n) limit_view c.only_word-in-persons.result c.and_then-in-persons.result c.map-in-persons.result c.only_word-in-persons.ensures (limit_at (words_of c.args.rest.now) c.in-persons.is)
    c.and_then-in-persons.ensures c.map-in-persons.ensures.cases (λ w k. search rules) (λ y z k. search rules)

pub returns-in-name : goal.returns-in-name
unfolding limit_of
returns-in-name c =
    chained name_of NameIs (λ w. w.now) (λ n. items n) limit_view c.optional_word.result c.and_then-in-name.result c.map-in-name.result c.optional_word.ensures (limit_at (words_of c.args.rest.now) c.in-name.is)
    c.and_then-in-name.ensures c.map-in-name.ensures.cases (λ w k. search rules) (λ y z k. search rules)

pub returns-in_default : goal.returns-in_default
returns-in_default c = at_none c.args.kind.now (words_of c.args.rest.now) c.in_default.not-museums c.in_default.not-days c.in_default.not-minutes c.in_default.not-persons c.in_default.not-name
