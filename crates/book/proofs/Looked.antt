-- Secrets looked up by number in the code's map. Assumes nothing.
use Rattle.std.proofs.Common.{◌≡◌, ℕ, Bool, true, false, cond, eqb, List, [], ◌∷◌, is_some, Some, None, Option, sym, refl, ap, ◌∙◌}
use Rattle.std.proofs.lemmas.Bool.{true≢false}
use Rattle.std.specs.Map.{lookup}
use Rattle.hmac.specs.declared.Mac.{Mac}
use Rattle.parts.specs.declared.KeyNumber.{KeyNumber}
use Rattle.book.specs.Keys.{secret_in, taken}
use Rattle.book.specs.Entries.{keys_view, secret_view}
use Rattle.book.proofs.Apart.{eqb_flip}

-- whether there is a secret
pub some_view : (o : Option Mac) → is_some (secret_view o) ≡ is_some o
some_view None = refl
some_view (Some m) = refl

-- what a look-up by number finds
pub looked_up : (test : KeyNumber → Bool) (n : ℕ) → ((k : KeyNumber) → test k ≡ eqb n k.number) → (es : List (KeyNumber × Mac)) → secret_view (lookup test es) ≡ secret_in (keys_view es) n
unfolding secret_in
looked_up test n same [] = refl
looked_up test n same (e ∷ es) = by (test e.0) (same e.0) (looked_up test n same es)
  where
    by : (b : Bool) → b ≡ eqb n e.0.number → secret_view (lookup test es) ≡ secret_in (keys_view es) n →
        secret_view (cond b (Some e.1) (lookup test es)) ≡ cond (eqb e.0.number n) (Some e.1.bytes) (secret_in (keys_view es) n)
    by true q below = ap (λ c. cond c (Some e.1.bytes) (secret_in (keys_view es) n)) (q ∙ eqb_flip n e.0.number)
    by false q below = below ∙ ap (λ c. cond c (Some e.1.bytes) (secret_in (keys_view es) n)) (q ∙ eqb_flip n e.0.number)

none_view : (o : Option Mac) → is_some o ≡ false → o ≡ None
none_view None e = refl
none_view (Some m) e = absurd (true≢false e)

-- a number that is free
pub none_found : (test : KeyNumber → Bool) (n : ℕ) → ((k : KeyNumber) → test k ≡ eqb n k.number) → (es : List (KeyNumber × Mac)) → taken (keys_view es) n ≡ false → lookup test es ≡ None
none_found test n same es free = none_view (lookup test es) (sym (some_view (lookup test es)) ∙ (ap is_some (looked_up test n same es) ∙ free))
