-- A cause in plain words. Assumes nothing.
use Rattle.std.specs.Prelude.{ℕ, List, codes}
use Rattle.texts.specs.declared.Cause.{Cause}
use Rattle.texts.specs.declared.Cause.TheVariants.{UnknownWord, MissingWord, TooManyWords, NotANumber, TooLarge, NoSuchMuseum, TooManyMuseums, NoSuchKey, NotASpan, Backward, BadLetter, LongName}

-- a cause in plain words
abbrev pub worded : Cause → List ℕ
worded UnknownWord = codes "unknown word"
worded MissingWord = codes "a word is missing"
worded TooManyWords = codes "too many words"
worded NotANumber = codes "not a number"
worded TooLarge = codes "the number is too large"
worded NoSuchMuseum = codes "museums have numbers from 1 to 200"
worded TooManyMuseums = codes "more than 8 museums"
worded NoSuchKey = codes "keys have numbers up to 4095"
worded NotASpan = codes "a span is two numbers with - between them"
worded Backward = codes "the span ends before it begins"
worded BadLetter = codes "a name has only the letters a to z"
worded LongName = codes "a name has at most 32 letters"
