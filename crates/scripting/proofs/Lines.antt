-- A script's statements, line by line. Assumes nothing.
use Rattle.std.proofs.Common.{◌≡◌, ℕ, ◌+◌, ◌^◌, ◌<◌, Bool, true, false, not, eqb, List, [], ◌∷◌, ◌++◌, map, length, Some, None, Ok, Err, Option, Result, ap, ◌∙◌, arith, Bor}
use Rattle.std.specs.declared.iter.Enumerate.{Enumerate}
use Rattle.std.specs.declared.str.Split.{Split}
use Rattle.std.specs.Str.Iter.{split_text, split_has_more, split_pattern}
use Rattle.std.specs.Iterator.Adapters.{enumerate_source, enumerate_count}
use Rattle.std.proofs.lemmas.List.{map_push}
use Rattle.std.proofs.lemmas.Bool.{ne_eqb}
use Rattle.texts.proofs.Cuts as parts
use Rattle.texts.proofs.Cuts.{to_come, took}
use Rattle.scripting.specs.declared.Numbered.{Numbered}
use Rattle.scripting.specs.Rules.{newline, uncommented, Outcome, some_of, outcome, reads}
use Rattle.scripting.specs.Views.{numbered}

-- what a line of number n and the lines ls after it come to, by what that line says
abbrev pub after : {X C : Type 0} → (Bool → List ℕ → Result (Option X) C) → List (ℕ × X) → ℕ → List (List ℕ) → Result (Option X) C → Outcome X C
after sense said n ls (Ok None) = outcome sense said (n + 1) ls
after sense said n ls (Ok (Some s)) = outcome sense (said ++ (n, s) ∷ []) (n + 1) ls
after sense said n ls (Err c) = record { said = said; stop = Some (record { line = n; cause = c }) }

-- ---- the loop

-- what `split` at a character says of `next`, and `enumerate`
abbrev pub Next : Enumerate (Split ℕ) → ℕ → Bor (List ℕ) → Enumerate (Split ℕ) → Type 0
Next s i x u = parts.Next (enumerate_source s) x (enumerate_source u) × (i ≡ enumerate_count s) × (enumerate_count u ≡ enumerate_count s + 1) × (i + 1 < 2 ^ 64)

-- ns are the statements so far, and s has the lines to come
pub record Sofar {S X C : Type 0} (stated : S → X) (sense : Bool → List ℕ → Result (Option X) C) (ns : List (Numbered S)) (s : Enumerate (Split ℕ)) (text : List ℕ) : Type 0 where
  pub rest : outcome sense (map (numbered stated) ns) (enumerate_count s + 1) (to_come newline (enumerate_source s)) ≡ reads sense text
  pub cuts : split_pattern (enumerate_source s) ≡ 10

some_so_far : {S X : Type 0} (stated : S → X) (ns : List (Numbered S)) (n : ℕ) → n ≡ length ns → not (eqb n 0) ≡ some_of (map (numbered stated) ns)
some_so_far stated [] n e = rw e
some_so_far stated (s ∷ ns) n e = ap not (ne_eqb n 0 (λ z. omega arith))

module _ {S X C : Type 0} {stated : S → X} {sense : Bool → List ℕ → Result (Option X) C} where
  module _ {ns : List (Numbered S)} {s : Enumerate (Split ℕ)} where
    pub no_line_yet : (text : List ℕ) → ns ≡ [] → enumerate_count s ≡ 0 → split_has_more (enumerate_source s) ≡ true → split_text (enumerate_source s) ≡ text → split_pattern (enumerate_source s) ≡ 10 → Sofar stated sense ns s text
    no_line_yet text e f g h k = record { rest = rw (e, f, g, h); cuts = k }

    module _ {text : List ℕ} (old : Sofar stated sense ns s text) where
      pub no_more : split_has_more (enumerate_source s) ≡ false → record { said = map (numbered stated) ns; stop = None } ≡ reads sense text
      no_more e = rw e at old.rest

      module _ (u : Enumerate (Split ℕ)) (i : ℕ) (x : Bor (List ℕ)) (step : Next s i x u) where
        same : split_pattern (enumerate_source u) ≡ 10
        same = step.0.1.0 ∙ old.cuts

        -- empty says whether no statement stands before, code is the line without its comment, and q is what it says
        pub turn : (len : ℕ) (empty : Bool) (code : List ℕ) (q : Result (Option X) C) → len ≡ length ns → empty ≡ eqb len 0 → code ≡ uncommented x.now → q ≡ sense (not empty) code
            → after sense (map (numbered stated) ns) (i + 1) (to_come newline (enumerate_source u)) q ≡ reads sense text
        turn len empty code q e f g h =
            let new = took 10 (omega arith) (enumerate_source s) (enumerate_source u) x old.cuts step.0 in
            let at : q ≡ sense (some_of (map (numbered stated) ns)) (uncommented x.now) = rw (f, some_so_far stated ns len e, g) at h in
            rw (step.1, at) (rw new at old.rest)

        pub nothing_said : after sense (map (numbered stated) ns) (i + 1) (to_come newline (enumerate_source u)) (Ok None) ≡ reads sense text → Sofar stated sense ns u text
        nothing_said h = record { rest = rw (step.2, ← step.1) h; cuts = same }

        pub one_more : (ms : List (Numbered S)) (n : Numbered S) → ms ≡ ns ++ n ∷ [] → n.line ≡ i + 1 → after sense (map (numbered stated) ns) (i + 1) (to_come newline (enumerate_source u)) (Ok (Some (stated n.statement))) ≡ reads sense text → Sofar stated sense ms u text
        one_more ms n e f h = record { rest = rw (e, map_push (numbered stated) ns n, step.2, ← step.1, f) h; cuts = same }
