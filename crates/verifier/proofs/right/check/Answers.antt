use Rattle.std.proofs.Common.{◌≡◌, Bool, true, List, map, vec_items, Decides, sym, refl, ap, ◌∙◌}
use Rattle.std.proofs.lemmas.Bool.{cond-true, cond-false}
use Rattle.narrow.specs.Rows.{all}
use Rattle.narrow.specs.Ticket.{ticket_mac}
use Rattle.narrow.specs.TermBytes.{bytes_of}
use Rattle.hmac.specs.declared.Mac.{Mac}
use Rattle.tickets.specs.Made.{Secrets, by_hmac}
use Rattle.tickets.specs.declared.TiedYes.{TiedYes}
use Rattle.tickets.specs.Views.{tied_view}
use Rattle.showing.specs.declared.shown.Shown.{Shown}
use Rattle.showing.specs.Showing.{ShownView}
use Rattle.showing.specs.Views.{shown_view}
use Rattle.verifier.specs.Stages.{secrets, known_tie}
use Rattle.verifier.specs.Verdict.{right_mac, known_keys, right_ties, verdict_on}
use Rattle.verifier.proofs.Chains.{same_decides, tied_terms, known_tied}
use Rattle.verifier.proofs.right.check.Goals as goal

-- what the last MAC of the ticket's row, and the yeses that were lent, tell of what is shown
record Tells (s : Secrets) (v : ShownView) (last : Mac) (r : Bool) (lent : List TiedYes) : Type 0 where
  mac : right_mac s v.ticket ≡ r
  known : (b : Bool) → b ≡ known_keys s (map tied_view lent) → known_keys s v.yeses ≡ b
  ties : (b : Bool) → known_keys s v.yeses ≡ true → b ≡ all (known_tie s last.bytes) (map tied_view lent) → right_ties s v.ticket.of v.yeses ≡ b

tells : (s : Secrets) (shown : Shown) {last : Mac} {at : Mac → Mac} {r : Bool} {lent : List TiedYes} → ((d : Mac) → last ≡ at d) →
    ((d : Mac) → (at d).bytes ≡ bytes_of (by_hmac s) (ticket_mac (shown_view shown).ticket.of)) → Decides r (last.bytes ≡ (shown_view shown).ticket.mac) → lent ≡ vec_items shown.yeses →
    Tells s (shown_view shown) last r lent
tells s shown {last} {r = r} is made d same =
    let v = shown_view shown in
    let mac = ap (λ (m : Mac). m.bytes) (is shown.ticket.mac) ∙ made shown.ticket.mac in
    let yeses = ap (λ (ys : List TiedYes). map tied_view ys) same in
    record {
      mac = sym (same_decides r last.bytes v.ticket.mac _ d mac);
      known = λ b e. ap (known_keys s) (sym yeses) ∙ sym e;
      ties = λ b known e. sym (e ∙ (ap (all (known_tie s last.bytes)) yeses ∙ (known_tied s last.bytes v.yeses known ∙ tied_terms s v.ticket.of last.bytes v.yeses mac)));
    }

pub returns-then-not-same : goal.returns-then-not-same
unfolding verdict_on
returns-then-not-same c =
    let told = tells (secrets c.args.book.now) c.args.shown c.last-last.ensures c.ticket_macs-macs.ensures c.same.ensures refl in
    cond-false _ _ _ (told.mac ∙ c.if-not-same.true)

pub returns-then-not-all_known : goal.returns-then-not-all_known
unfolding verdict_on
returns-then-not-all_known c =
    let told = tells (secrets c.args.book.now) c.args.shown c.last-last.ensures c.ticket_macs-macs.ensures c.same.ensures c.as_slice-yeses.ensures.value in
    cond-true _ _ _ (told.mac ∙ c.if-not-same.false) ∙ cond-false _ _ _ (told.known _ c.if-not-all_known.ensures)

pub returns-then-not-all_tied : goal.returns-then-not-all_tied
unfolding verdict_on
returns-then-not-all_tied c =
    let told = tells (secrets c.args.book.now) c.args.shown c.last-last.ensures c.ticket_macs-macs.ensures c.same.ensures c.as_slice-yeses.ensures.value in
    let known = told.known _ c.if-not-all_known.ensures in
    cond-true _ _ _ (told.mac ∙ c.if-not-same.false) ∙ (cond-true _ _ _ known ∙ cond-false _ _ _ (told.ties _ known c.if-not-all_tied.ensures))

pub returns : goal.returns
returns c =
    let told = tells (secrets c.args.book.now) c.args.shown c.last-last.ensures c.ticket_macs-macs.ensures c.same.ensures c.as_slice-yeses.ensures.value in
    let known = told.known _ c.if-not-all_known.ensures in
    (refl, record { mac = told.mac ∙ c.if-not-same.false; known = known; ties = told.ties _ known c.if-not-all_tied.ensures })
