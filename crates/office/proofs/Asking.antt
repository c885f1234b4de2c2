-- What the arguments ask for, by how many there are. Assumes nothing.
use Rattle.std.proofs.Common.{◌≡◌, ℕ, ◌<◌, Bool, cond, List, [], ◌∷◌, map, length, get_or, Ok, Err, string_bytes, codes, String, refl, ap, ◌∙◌, arith}
use Rattle.std.specs.declared.alloc.Global.{Global}
use Rattle.std.specs.Str.{bytes_eq}
use Rattle.office.specs.declared.arguments.Asked.TheVariants.{Play, Help}
use Rattle.office.specs.declared.reasons.Reason.TheVariants.{Argument}
use Rattle.office.specs.Ends.{asked_by}

pub none_asked : (ws : List (String Global)) → length ws ≡ 0 → Ok Play ≡ asked_by (map string_bytes ws)
none_asked [] l = refl
none_asked (w ∷ ws) l = absurd (omega arith)

-- b is the test of the one argument
pub one_asked : (ws : List (String Global)) (only : String Global) (bs : List ℕ) (b : Bool) → length ws ≡ 1 → only ≡ get_or ws 0 only → bs ≡ string_bytes only → b ≡ bytes_eq bs (codes "--help") → cond b (Ok Help) (Err Argument) ≡ asked_by (map string_bytes ws)
one_asked [] only bs b l e f t = absurd (omega arith)
one_asked (w ∷ []) only bs b l e f t = ap (λ r. cond r (Ok Help) (Err Argument)) (t ∙ ap (λ v. bytes_eq v (codes "--help")) (f ∙ ap string_bytes e))
one_asked (w ∷ v ∷ ws) only bs b l e f t = absurd (omega arith)

pub more_asked : (ws : List (String Global)) → 1 < length ws → Err Argument ≡ asked_by (map string_bytes ws)
more_asked [] l = absurd (omega arith)
more_asked (w ∷ []) l = absurd (omega arith)
more_asked (w ∷ v ∷ ws) l = refl
