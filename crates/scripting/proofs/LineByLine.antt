-- A script says what its lines say, each read by itself, up to the first that can't be read. Assumes nothing.
use Rattle.std.proofs.Common.{◌≡◌, ℕ, ◌+◌, Bool, List, [], ◌∷◌, ◌++◌, length, Some, None, Ok, Err, Option, Result, sym, refl, ap, ◌∙◌, subst, inl, inr, append_assoc, append-nil, arith, MatchOption}
use Rattle.std.specs.List.{AllByRecursion}
use Rattle.scripting.specs.declared.Fault.{Fault}
use Rattle.scripting.specs.Laws.{AsAlone, heard, statements_of, Readable, LineByLine}
use Rattle.scripting.specs.Rules.{uncommented, Outcome, some_of, outcome, lines_in, reads}
use Rattle.scripting.proofs.Lines.{after}

-- `FirstFault`, of lines that are numbered from n and stand after the statements past
record FaultAfter {X C : Type 0} (alone : List ℕ → Result (Option X) C) (sense : Bool → List ℕ → Result (Option X) C) (past : List (ℕ × X)) (n : ℕ) (ls : List (List ℕ)) (said : List (ℕ × X)) (f : Fault C) : Type 0 where
  before : List (List ℕ)
  here : List ℕ
  rest : List (List ℕ)
  split : ls ≡ before ++ here ∷ rest
  number : f.line ≡ n + length before
  readable : AllByRecursion (Readable alone) before
  cause : sense (some_of said) (uncommented here) ≡ Err f.cause
  spoken : said ≡ past ++ statements_of alone n before

module _ {X C : Type 0} (alone : List ℕ → Result (Option X) C) (sense : Bool → List ℕ → Result (Option X) C) where
  abbrev Goes : List (ℕ × X) → ℕ → List (List ℕ) → List (ℕ × X) → Option (Fault C) → Type 0
  Goes past n ls said stop = MatchOption stop (AllByRecursion (Readable alone) ls × (said ≡ past ++ statements_of alone n ls)) (FaultAfter alone sense past n ls said)

  -- one line more in front, which can be read
  longer : (past : List (ℕ × X)) (n : ℕ) (l : List ℕ) (ls : List (List ℕ)) (said : List (ℕ × X)) (stop : Option (Fault C)) → Readable alone l → Goes (past ++ heard n (alone (uncommented l))) (n + 1) ls said stop → Goes past n (l ∷ ls) said stop
  longer past n l ls said None r h = ((r, h.0), h.1 ∙ append_assoc past _ _)
  longer past n l ls said (Some f) r h = record {
    before = l ∷ h.before;
    here = h.here;
    rest = h.rest;
    split = ap (λ ms. l ∷ ms) h.split;
    number = omega (arith, h.number);
    readable = (r, h.readable);
    cause = h.cause;
    spoken = h.spoken ∙ append_assoc past _ _;
  }

  -- one line, which says q, before lines that hold to this
  step : (past : List (ℕ × X)) (n : ℕ) (l : List ℕ) (ls : List (List ℕ)) → ((p : List (ℕ × X)) → Goes p (n + 1) ls (outcome sense p (n + 1) ls).said (outcome sense p (n + 1) ls).stop) → (q : Result (Option X) C)
      → sense (some_of past) (uncommented l) ≡ q → AsAlone (alone (uncommented l)) q → Goes past n (l ∷ ls) (after sense past n ls q).said (after sense past n ls q).stop
  step past n l ls goes (Ok None) e (inr late) = let z : ◌≡◌ {A = ℕ} 0 1 = cc in absurd (omega arith)
  step past n l ls goes (Ok (Some s)) e (inr late) = let z : ◌≡◌ {A = ℕ} 0 1 = cc in absurd (omega arith)
  step past n l ls goes (Ok None) e (inl same) =
      longer past n l ls _ _ (λ c f. let z : ◌≡◌ {A = ℕ} 0 1 = cc in absurd (omega arith))
      (subst (λ p. Goes p (n + 1) ls (outcome sense past (n + 1) ls).said (outcome sense past (n + 1) ls).stop) (sym (append-nil past) ∙ ap (λ q. past ++ heard n q) (sym same)) (goes past))
  step past n l ls goes (Ok (Some s)) e (inl same) =
      longer past n l ls _ _ (λ c f. let z : ◌≡◌ {A = ℕ} 0 1 = cc in absurd (omega arith))
      (subst (λ p. Goes p (n + 1) ls (outcome sense (past ++ (n, s) ∷ []) (n + 1) ls).said (outcome sense (past ++ (n, s) ∷ []) (n + 1) ls).stop) (ap (λ q. past ++ heard n q) (sym same)) (goes (past ++ (n, s) ∷ [])))
  step past n l ls goes (Err c) e _ =
      record { before = []; here = l; rest = ls; split = refl; number = omega arith; readable = tt; cause = e; spoken = sym (append-nil past) }

  module _ (placed : (begun : Bool) (code : List ℕ) → AsAlone (alone code) (sense begun code)) where
    goes : (past : List (ℕ × X)) (n : ℕ) (ls : List (List ℕ)) → Goes past n ls (outcome sense past n ls).said (outcome sense past n ls).stop
    goes past n [] = (tt, sym (append-nil past))
    goes past n (l ∷ ls) = step past n l ls (λ p. goes p (n + 1) ls) (sense (some_of past) (uncommented l)) refl (placed (some_of past) (uncommented l))

    pub by_lines : (text : List ℕ) (o : Outcome X C) → o ≡ reads sense text → LineByLine alone sense (lines_in text) o
    by_lines text o e = subst (LineByLine alone sense (lines_in text)) (sym e) (whole (reads sense text).said (reads sense text).stop (goes [] 1 (lines_in text)))
      where
        whole : (said : List (ℕ × X)) (stop : Option (Fault C)) → Goes [] 1 (lines_in text) said stop → LineByLine alone sense (lines_in text) (record { said = said; stop = stop })
        whole said None h = h
        whole said (Some f) h = record {
          before = h.before;
          here = h.here;
          after = h.rest;
          split = h.split;
          number = h.number;
          readable = h.readable;
          cause = h.cause;
          spoken = h.spoken;
        }
