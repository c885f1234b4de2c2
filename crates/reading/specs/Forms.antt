-- The form of each statement, word by word. Assumes nothing.
use Rattle.std.specs.Prelude.{ℕ, cond, List, [], ◌∷◌, Some, None, Ok, Err, codes, Option, Result}
use Rattle.std.specs.Str.{bytes_eq}
use Rattle.texts.specs.declared.Cause.{Cause}
use Rattle.texts.specs.declared.Cause.TheVariants.{UnknownWord}
use Rattle.texts.specs.Cuts.{words_of, head_tail}
use Rattle.texts.specs.Labels.{next, labelled, only_after, pair_after}
use Rattle.texts.specs.Results.{and_then, and_is}
use Rattle.words.specs.Lines.{key_of}
use Rattle.words.specs.Wishes.{wish_in}
use Rattle.statements.specs.Said.{Gifted, a_thing, a_key, Said, house_of, key_to, given, wish_of, shown}
use Rattle.making.specs.Forms.{ticket_said, yes_said, add_said, tie_said}

-- `house SEED`
unfoldable pub house_said : List (List ℕ) → Result Said Cause
house_said ws = and_is (only_after (codes "house") ws) house_of

-- `key K to PERSON`
unfoldable pub key_said : List (List ℕ) → Result Said Cause
key_said ws = and_then (pair_after (codes "key") (codes "to") ws) (λ k. and_is (key_of k.0) (λ n. key_to n k.1))

-- `give X`, or `give key K`: what is given, and the words after it
unfoldable pub gift_said : List (List ℕ) → Result (Gifted × List (List ℕ)) Cause
gift_said ws =
    and_then (labelled (codes "give") ws) (λ x. cond (bytes_eq x.0 (codes "key")) (and_then (next x.1) (λ k. and_is (key_of k.0) (λ n. (a_key n, k.1)))) (Ok (a_thing x.0, x.1)))

-- `give X from PERSON to PERSON`
unfoldable pub give_said : List (List ℕ) → Result Said Cause
give_said ws = and_then (gift_said ws) (λ g. and_is (pair_after (codes "from") (codes "to") g.1) (λ p. given g.0 p.0 p.1))

-- `wish PERSON: WISH`
unfoldable pub wish_said : List ℕ → Result Said Cause
wish_said text = and_then (head_tail text) (λ t. and_then (only_after (codes "wish") (words_of t.0)) (λ p. and_is (wish_in t.1) (λ w. wish_of p w)))

-- `show PERSON T Z Z ..: WISH`
unfoldable pub show_said : List ℕ → Result Said Cause
show_said text =
    and_then (head_tail text) (λ t. and_then (labelled (codes "show") (words_of t.0)) (λ p. and_then (next p.1) (λ q. and_is (wish_in t.1) (λ w. shown p.0 q.0 q.1 w))))

-- the statement that begins with this word
unfoldable pub said_by : List ℕ → List ℕ → Result Said Cause
said_by w text =
    cond (bytes_eq w (codes "house")) (house_said (words_of text))
    (cond (bytes_eq w (codes "key")) (key_said (words_of text))
    (cond (bytes_eq w (codes "ticket")) (ticket_said text)
    (cond (bytes_eq w (codes "yes")) (yes_said text)
    (cond (bytes_eq w (codes "add")) (add_said text)
    (cond (bytes_eq w (codes "tie")) (tie_said (words_of text))
    (cond (bytes_eq w (codes "give")) (give_said (words_of text))
    (cond (bytes_eq w (codes "wish")) (wish_said text)
    (cond (bytes_eq w (codes "show")) (show_said text) (Err UnknownWord)))))))))

-- the first word says which statement it is; no word says nothing
abbrev pub by_first : List (List ℕ) → List ℕ → Result (Option Said) Cause
by_first [] text = Ok None
by_first (w ∷ ws) text = and_is (said_by w text) Some

-- what a text says
unfoldable pub said_in : List ℕ → Result (Option Said) Cause
said_in text = by_first (words_of text) text
