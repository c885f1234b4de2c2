use Rattle.std.proofs.Common.{◌≡◌, true, List, [], ◌∷◌, ◌++◌, Ok, Err, OnOk, OnErr, Result, refl, ap, ◌∙◌}
use Rattle.std.proofs.lemmas.List.{map_push}
use Rattle.indexmap.proofs.CallerLemmas.{insert_entry-new}
use Rattle.hmac.specs.declared.Mac.{Mac}
use Rattle.parts.specs.declared.KeyNumber.{KeyNumber}
use Rattle.book.specs.Keys.{KeyView, apart}
use Rattle.book.specs.Entries.{key_view, entry_view, keys_view}
use Rattle.book.proofs.Apart.{apart_push}
use Rattle.book.proofs.Looked.{none_found}
use Rattle.book.proofs.held.Book.put.Goals as goal

-- what holds of a success and of an error
either_way : {A E P Q : Type 0} {R : Type 0} (r : Result A E) → OnOk r P → OnErr r Q → (P → R) → (Q → R) → R
either_way (Ok x) p q f g = f p
either_way (Err e) p q f g = g q

pub invariant_of-self : goal.invariant_of-self
invariant_of-self c =
    let self = c.args.self.now in
    let key = c.args.key in
    let es = self.keys.entries in
    let none = none_found _ key.number.number (λ k. refl) es c.requires in
    let added : c.insert.new.self.entries ≡ es ++ (key.number, key.secret) ∷ [] → apart (keys_view c.insert.new.self.entries) ≡ true =
    λ e. ap (λ (xs : List (KeyNumber × Mac)). apart (keys_view xs)) e ∙ (ap apart (map_push entry_view es (key.number, key.secret)) ∙ apart_push (keys_view es) (key_view key) self.apart c.requires) in
    record { apart = either_way c.insert.result c.insert.ensures.entries c.insert.ensures.err (λ e. added (e ∙ insert_entry-new _ self.keys key.number key.secret none)) (λ e. ap (λ (xs : List (KeyNumber × Mac)). apart (keys_view xs)) e ∙ self.apart) }

pub returns : goal.returns
returns c =
    let self = c.args.self.now in
    let key = c.args.key in
    let es = self.keys.entries in
    let none = none_found _ key.number.number (λ k. refl) es c.requires in
    let longer : keys_view c.insert.new.self.entries ≡ keys_view es ++ key_view key ∷ [] =
    ap keys_view (c.in_ok-insert.ensures.entries ∙ insert_entry-new _ self.keys key.number key.secret none) ∙ map_push entry_view es (key.number, key.secret) in
    ap (λ (ks : List KeyView). record { house = self.house.bytes; keys = ks }) longer
