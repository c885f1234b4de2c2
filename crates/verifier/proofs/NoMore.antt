-- A line more lets no more through, on bytes. Assumes nothing.
use Rattle.std.proofs.Common.{◌≡◌, ℕ, true, ◌&&◌, eqb, ltb, leb, List, [], ◌∷◌, ◌++◌, map, length, is_some, Ok, sym, refl, ap, ◌∙◌, subst, arith}
use Rattle.std.proofs.lemmas.List.{length-map, length_push}
use Rattle.std.proofs.lemmas.Bool.{and_parts, and_from, eq-eqb, le-leb, lt-ltb}
use Rattle.narrow.specs.Rows.{all}
use Rattle.narrow.specs.Term.{Bytes}
use Rattle.narrow.specs.Ticket as model
use Rattle.narrow.specs.TermBytes.{bytes_of, tie_message}
use Rattle.narrow.specs.Policy.{most_lines, most_yeses, today, lets}
use Rattle.narrow.proofs.Rows.{map_in, map_from}
use Rattle.narrow.proofs.Lets.{shown_narrower, today_closed}
use Rattle.parts.specs.Limits.{WishView}
use Rattle.lines.specs.declared.Place.TheVariants as place
use Rattle.lines.specs.Meaning.{says}
use Rattle.hmac.specs.Hmac.{hmac_of}
use Rattle.hmac.proofs.Laws.{hmac_length}
use Rattle.rows.specs.Standing.{stands}
use Rattle.rows.proofs.Longer.{all_push}
use Rattle.tickets.specs.Making as making
use Rattle.tickets.specs.Making.{Ticket, Yes, Tied, line_added}
use Rattle.tickets.specs.Made.{by_hmac}
use Rattle.tickets.proofs.Rightly.{line_last, line_room, right_tie}
use Rattle.codec.specs.Format.{fixed, row, wish, behind, both, only, named, counted}
use Rattle.codec.specs.Things.{tied}
use Rattle.showing.specs.Showing.{ShownView, shown}
use Rattle.showing.proofs.Shows.{shown_exact, shown_same}
use Rattle.verifier.specs.Verdict.{untied, plainly}
use Rattle.verifier.specs.Laws.{AllRight, showing, LineNoMore}
use Rattle.verifier.proofs.Exactly.{through_exactly}

-- each yes fits tied to one ticket as it does tied to another
ties_fit : (t u : Ticket) (ys : List Yes) → all tied.fits (map (making.tied t) ys) ≡ true → all tied.fits (map (making.tied u) ys) ≡ true
unfolding making.tied all fixed behind both named
ties_fit t u [] e = refl
ties_fit t u (y ∷ ys) e =
    let (here, below) = and_parts (tied.fits (making.tied t y)) (all tied.fits (map (making.tied t) ys)) e in
    let body = (and_parts _ (eqb (length (hmac_of t.mac (tie_message y.mac))) 32) here).0 in
    and_from (tied.fits (making.tied u y)) (all tied.fits (map (making.tied u) ys))
    (and_from _ (eqb (length (hmac_of u.mac (tie_message y.mac))) 32) body (eq-eqb _ 32 (hmac_length u.mac (tie_message y.mac)))) (ties_fit t u ys below)

-- with a line added it still fits
longer_fits : (w : WishView) (t u : Ticket) (l : Bytes) (ys : List Yes) → line_added t l ≡ Ok u → shown.fits (showing w t ys) ≡ true → shown.fits (showing w u ys) ≡ true
unfolding fixed row wish behind both only named counted
longer_fits w t u l ys e h =
    let (longer, maced) = line_last t u l e in
    let (room, good) = line_room t u l e in
    let number = eqb (length t.of.number) 4 in
    let some = ltb 0 (length t.of.lines) in
    let few = leb (length t.of.lines) most_lines in
    let legible = all (stands place.Ticket) t.of.lines in
    let body = number && (some && (few && legible)) in
    let (one, two) = and_parts (body && eqb (length t.mac) 32) (leb (length (map (making.tied t) ys)) most_yeses && all tied.fits (map (making.tied t) ys)) h in
    let (front, back) = and_parts number (some && (few && legible)) (and_parts body _ one).0 in
    let stood = (and_parts few legible (and_parts some (few && legible) back).1).1 in
    let (many, fit) = and_parts (leb (length (map (making.tied t) ys)) most_yeses) (all tied.fits (map (making.tied t) ys)) two in
    let lines : u.of.lines ≡ t.of.lines ++ l ∷ [] = ap (λ (v : model.Ticket). v.lines) longer in
    let count : length u.of.lines ≡ length (t.of.lines ++ l ∷ []) = ap length lines in
    and_from _ _
    (and_from _ _
    (and_from _ _ (ap (λ (v : model.Ticket). eqb (length v.number) 4) longer ∙ front)
    (and_from _ _ (lt-ltb 0 (length u.of.lines) (omega (arith, count, length_push t.of.lines l)))
    (and_from _ _ (le-leb (length u.of.lines) most_lines (omega (arith, count, length_push t.of.lines l))) (ap (all (stands place.Ticket)) lines ∙ all_push place.Ticket t.of.lines l stood good))))
    (eq-eqb (length u.mac) 32 (ap length maced ∙ hmac_length t.mac l)))
    (and_from _ _ (ap (λ (n : ℕ). leb n most_yeses) (length-map ys (making.tied u) ∙ sym (length-map ys (making.tied t))) ∙ many) (ties_fit t u ys fit))

-- the yeses are the same whatever they are tied to
untied_same : (t u : Ticket) (ys : List Yes) → untied (map (making.tied t) ys) ≡ untied (map (making.tied u) ys)
unfolding making.tied
untied_same t u [] = refl
untied_same t u (y ∷ ys) = ap (λ (zs : List model.Yes). y.of ∷ zs) (untied_same t u ys)

pub line_no_more : LineNoMore
unfolding making.tied
line_no_more s w t u l ys right rights e fits through =
    let before = (through_exactly s (shown.write (showing w u ys))).0 through in
    let (good, same) = shown_same (showing w u ys) before.view (longer_fits w t u l ys e fits) before.read in
    let was : AllRight s (showing w u ys) = subst (AllRight s) (sym same) before.right in
    let met : lets (today (says w)) (plainly (showing w u ys)) ≡ true = subst (λ (v : ShownView). lets (today (says v.asked)) (plainly v) ≡ true) (sym same) before.met in
    let longer = (line_last t u l e).0 in
    let line = (shown_narrower (today (says w)) (today_closed (says w))).line t.of l (untied (map (making.tied u) ys)) in
    let less = line (ap (λ (v : model.Ticket). lets (today (says w)) (record { ticket = v; yeses = untied (map (making.tied u) ys) })) (sym longer) ∙ met) in
    (through_exactly s (shown.write (showing w t ys))).1
    (record {
      view = showing w t ys;
      read = shown_exact.back (showing w t ys) fits good;
      right =
          record {
            mac = right;
            known = λ y i. let (z, j, q) = map_in (making.tied t) ys y i in ap (λ (v : Tied). is_some (s.key v.of.key)) q ∙ was.known (making.tied u z) (map_from (making.tied u) j);
            ties = λ y i. let (z, j, q) = map_in (making.tied t) ys y i in subst (λ (v : Tied). v.mac ≡ bytes_of (by_hmac s) (model.tie_of t.of v.of)) (sym q) (right_tie s t z right (rights z j));
          };
      met = ap (λ (zs : List model.Yes). lets (today (says w)) (record { ticket = t.of; yeses = zs })) (untied_same t u ys) ∙ less;
    })
