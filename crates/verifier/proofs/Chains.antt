-- Chains of MACs, as the code works them out and as terms have them. Assumes nothing.
use Rattle.std.proofs.Common.{◌≡◌, ℕ, zero, suc, ◌+◌, ◌<◌, ◌≤◌, Bool, true, ◌&&◌, ◌≢◌, List, [], ◌∷◌, ◌++◌, map, length, get_or, take, drop, set, replicate, is_some, Some, Decides, Option, unwrap_or, sym, refl, ap, ◌∙◌, ⊎_elim, arith, length-drop}
use Rattle.std.proofs.lemmas.Bool.Decides.{same_from_decides}
use Rattle.std.proofs.lemmas.List.{take_more, take_all, drop_more, get_or-set_same, get_or-set_other}
use Rattle.std.proofs.lemmas.Bool.{cases_lt, and_parts}
use Rattle.narrow.specs.Rows.{all}
use Rattle.narrow.specs.Term.{Bytes, mac_length, Term, Secret, House, KeyOf, macs}
use Rattle.narrow.specs.Ticket.{Ticket, Yes, ticket_mac, yes_mac, yes_message}
use Rattle.narrow.specs.Can.{same_bytes}
use Rattle.narrow.proofs.Can.{same_bytes_lem}
use Rattle.narrow.specs.TermBytes.{bytes_of}
use Rattle.hmac.specs.Hmac.{hmac_of}
use Rattle.hmac.specs.declared.Mac.{Mac}
use Rattle.tickets.specs.Made.{Secrets, by_hmac}
use Rattle.tickets.specs.Making.{Tied}
use Rattle.tickets.specs.declared.TiedYes.{TiedYes}
use Rattle.tickets.specs.Views.{yes_body, tied_view}
use Rattle.judging.specs.Views.{bodies}
use Rattle.verifier.specs.Chain.{chained}
use Rattle.verifier.specs.Stages.{tie_is, known_tie, tied_to}
use Rattle.verifier.specs.Verdict.{known_keys, right_ties, untied}

pub chained_push : (k : Bytes) (ms : List Bytes) (m : Bytes) → chained k (ms ++ m ∷ []) ≡ hmac_of (chained k ms) m
unfolding chained
chained_push k [] m = refl
chained_push k (n ∷ ms) m = chained_push (hmac_of k n) ms m

-- one line more
pub chained_more : (k : Bytes) (ls : List Bytes) (i : ℕ) (l : Bytes) → i < length ls → l ≡ get_or ls i [] → chained k (take (i + 1) ls) ≡ hmac_of (chained k (take i ls)) l
chained_more k ls i l h e = ap (chained k) (take_more ls i [] h) ∙ (chained_push k (take i ls) (get_or ls i []) ∙ ap (hmac_of (chained k (take i ls))) (sym e))

-- none of the lines, and all of them
pub chained_none : (k : Bytes) (ls : List Bytes) → chained k (take 0 ls) ≡ k
unfolding chained
chained_none k ls = refl

pub chained_all : (k : Bytes) (ls : List Bytes) (n : ℕ) → length ls ≤ n → chained k (take n ls) ≡ chained k ls
chained_all k ls n h = ap (chained k) (take_all n ls h)

-- the first of two messages
pub chained_first : (k m : Bytes) (ls : List Bytes) (first : Bytes) → first ≡ hmac_of k m → chained first ls ≡ chained k (m ∷ ls)
unfolding chained
chained_first k m ls first e = ap (λ (b : Bytes). chained b ls) e

-- the bytes of a chain of terms
pub term_chained : (s : Secrets) (t : Term) (ms : List Bytes) → bytes_of (by_hmac s) (macs t ms) ≡ chained (bytes_of (by_hmac s) t) ms
unfolding bytes_of macs chained
term_chained s t [] = refl
term_chained s t (m ∷ ms) = term_chained s _ ms

-- the next line of a row, of which so many were passed over
module _ (ls rest : List Bytes) (i : ℕ) (l : Bytes) (left : drop i ls ≡ l ∷ rest) where
  pub line_inside : i < length ls
  line_inside = omega (arith, length-drop i ls, ap length left)

  pub line_here : l ≡ get_or ls i []
  line_here = ap (λ (xs : List Bytes). get_or xs 0 []) (sym left ∙ drop_more ls i [] line_inside)

  pub lines_after : rest ≡ drop (i + 1) ls
  lines_after = ap (drop 1) (sym left ∙ drop_more ls i [] line_inside)

-- the row of MACs that is worked out: where it starts, and one more
pub starts : (each : List Mac) (k : Bytes) (ls : List Bytes) (j : ℕ) (d : Mac) → (get_or each 0 d).bytes ≡ k → j ≤ 0 → (get_or each j d).bytes ≡ chained k (take j ls)
unfolding chained
starts each k ls zero d e h = e
starts each k ls (suc j) d e h = absurd (omega arith)

pub goes_on : (each : List Mac) (i : ℕ) (next d0 : Mac) (k : Bytes) (ls : List Bytes) (l : Bytes) → i + 1 < length each → i < length ls → l ≡ get_or ls i [] →
    ((j : ℕ) (d : Mac) → j ≤ i → (get_or each j d).bytes ≡ chained k (take j ls)) → next.bytes ≡ hmac_of (get_or each i d0).bytes l →
    (j : ℕ) (d : Mac) → j ≤ i + 1 → (get_or (set each (i + 1) next) j d).bytes ≡ chained k (take j ls)
goes_on each i next d0 k ls l room h is before e j d le = ⊎_elim earlier last (cases_lt j (i + 1))
  where
    earlier : j < i + 1 → (get_or (set each (i + 1) next) j d).bytes ≡ chained k (take j ls)
    earlier q = let other : j ≢ i + 1 = omega arith in ap (λ (m : Mac). m.bytes) (get_or-set_other each (i + 1) j next d other) ∙ before j d (omega arith)

    last : i + 1 ≤ j → (get_or (set each (i + 1) next) j d).bytes ≡ chained k (take j ls)
    last q =
        let here : j ≡ i + 1 = omega arith in
        ap (λ (n : ℕ). (get_or (set each (i + 1) next) n d).bytes) here ∙
        (ap (λ (m : Mac). m.bytes) (get_or-set_same each (i + 1) next d room) ∙
        (e ∙ (ap (λ (b : Bytes). hmac_of b l) (before i d0 (omega arith)) ∙ (sym (chained_more k ls i l h is) ∙ ap (λ (n : ℕ). chained k (take n ls)) (sym here)))))

-- the MAC of a ticket and of a yes, as worked out from the first message on
module _ (s : Secrets) where
  pub ticket_chained : (t : Ticket) (first : Bytes) → first ≡ hmac_of s.house t.number → chained first t.lines ≡ bytes_of (by_hmac s) (ticket_mac t)
  unfolding bytes_of
  ticket_chained t first e = chained_first s.house t.number t.lines first e ∙ sym (term_chained s (Secret House) (t.number ∷ t.lines))

  pub yes_chained : (y : Yes) (secret : Bytes) → s.key y.key ≡ Some secret → chained secret (yes_message ∷ y.lines) ≡ bytes_of (by_hmac s) (yes_mac y)
  unfolding bytes_of
  yes_chained y secret e =
      ap (λ (o : Option Bytes). chained (unwrap_or o (replicate mac_length 0)) (yes_message ∷ y.lines)) (sym e) ∙ sym (term_chained s (Secret (KeyOf y.key)) (yes_message ∷ y.lines))

-- a tie to a ticket that has the bytes of its term
pub tied_terms : (s : Secrets) (t : Ticket) (mac : Bytes) (ys : List Tied) → mac ≡ bytes_of (by_hmac s) (ticket_mac t) → tied_to s mac ys ≡ right_ties s t ys
unfolding bytes_of
tied_terms s t mac ys e = ap (λ (b : Bytes). tied_to s b ys) e

-- where all keys are known, the ties alone are left to be right
pub known_tied : (s : Secrets) (mac : Bytes) (ys : List Tied) → known_keys s ys ≡ true → all (known_tie s mac) ys ≡ tied_to s mac ys
unfolding all
known_tied s mac [] known = refl
known_tied s mac (y ∷ ys) known =
    let (here, below) = and_parts (is_some (s.key y.of.key)) (known_keys s ys) known in
    λ i. (here i && tie_is s mac y) && known_tied s mac ys below i

-- a test that decides an equation of byte strings
pub same_decides : (r : Bool) (a b c : Bytes) → Decides r (a ≡ b) → a ≡ c → r ≡ same_bytes b c
same_decides r a b c d e = same_from_decides r (same_bytes b c) (λ q. sym (d.0 q) ∙ e, λ q. d.1 (e ∙ sym q)) (same_bytes_lem b c)

-- yeses without their ties
pub bodies_untied : (ys : List TiedYes) → bodies ys ≡ untied (map tied_view ys)
bodies_untied [] = refl
bodies_untied (y ∷ ys) = ap (λ (zs : List Yes). yes_body y.body ∷ zs) (bodies_untied ys)
