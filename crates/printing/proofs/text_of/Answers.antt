use Rattle.std.proofs.Common.{List, ℕ, Ok, Err, Result, refl, MatchResult, IsUtf8, Bor}
use Rattle.std.specs.Result.{IsOk}
use Rattle.printing.proofs.Texts.{name_text}
use Rattle.printing.proofs.text_of.Goals as goal

-- what is text can be had as text
text_had : {E : Type 0} (P : E → Type 0) (Q : Bor (List ℕ) → Type 0) (bs : List ℕ) (r : Result (Bor (List ℕ)) E) → IsUtf8 bs → MatchResult r Q (λ e. (IsUtf8 bs → ⊥) × P e) → IsOk r
text_had P Q bs (Ok t) text a = refl
text_had P Q bs (Err e) text a = absurd (a.0 text)

pub unwrap-requires : goal.unwrap-requires
unwrap-requires c = text_had _ _ _ c.from_utf8.result (name_text _ _ c.args.name.now.possible c.as_slice.ensures) c.from_utf8.ensures.cases
