use Rattle.std.proofs.Common.{◌≡◌, IfOk, Ok, Err, Result, sym, ◌∙◌}
use Rattle.std.specs.declared.alloc.AllocError.{AllocError}
use Rattle.narrow.specs.Term.{Bytes}
use Rattle.lines.specs.declared.Fault.{Fault}
use Rattle.tickets.specs.Made.{Secrets}
use Rattle.showing.specs.Views.{shown_view}
use Rattle.showing.specs.Showing.{shown_of}
use Rattle.trouble.specs.Told.{Told}
use Rattle.trouble.specs.declared.Trouble.{Trouble}
use Rattle.trouble.specs.declared.Trouble.TheVariants as trouble
use Rattle.verifier.specs.declared.State.{State}
use Rattle.verifier.specs.Laws.{LetThrough, Why}
use Rattle.verifier.specs.Stages.{secrets, Unreadable}
use Rattle.verifier.specs.Verdict as spec
use Rattle.verifier.specs.Verdict.{Verdict}
use Rattle.verifier.proofs.Exactly.{read_on, not_read, verdict_exactly, through_exactly}
use Rattle.verifier.proofs.admit.Goals as goal

module _ (s : Secrets) (bs : Bytes) where
  -- what follows of an answer that is the verdict
  through_of : (a : Verdict) → a ≡ spec.verdict s bs → (a ≡ Ok tt → LetThrough s bs) × (LetThrough s bs → a ≡ Ok tt)
  through_of a e = (λ q. (through_exactly s bs).0 (sym e ∙ q), λ w. e ∙ (through_exactly s bs).1 w)

  why_of : (a : Verdict) → a ≡ spec.verdict s bs → Why s bs a
  why_of a e = (verdict_exactly s bs a).0 (sym e)

  -- the answer for what can't be read is the verdict, if there is one
  unread_told : (u : Trouble Fault) (st : State) (r : Result (Verdict × State) AllocError) → Told shown_view (Err u) (shown_of bs) → Unreadable u st r →
      (P : Verdict → Type 0) → ((a : Verdict) → a ≡ spec.verdict s bs → P a) → IfOk r (λ p. P p.0)
  unread_told (trouble.Unreadable f) st (Ok p) told e P of =
      let value : ◌≡◌ {A = Verdict} p.0 (spec.on_read s (Err f)) = cc in
      of p.0 (value ∙ sym (not_read s bs f (sym told)))
  unread_told (trouble.Unreadable f) st (Err e) told q P of = tt
  unread_told trouble.NoMemory st (Ok p) told e P of = absurd e
  unread_told trouble.NoMemory st (Err e) told q P of = tt

pub returns-in-Ok : goal.returns-in-Ok
returns-in-Ok c =
    let s = secrets c.args.book.now in
    let bs = c.args.bytes.now in
    let e = c.verdict_on.ensures ∙ sym (read_on s bs (shown_view c.in-Ok.shown) (sym c.in-Ok.ensures)) in
    record { verdict = e; through = through_of s bs _ e; why = why_of s bs _ e }

pub returns-in-Err : goal.returns-in-Err
returns-in-Err c =
    let s = secrets c.args.book.now in
    let bs = c.args.bytes.now in
    let told = unread_told s bs c.in-Err.unread c.args.state c.not_read.result c.in-Err.ensures c.not_read.ensures in
    record { verdict = told (λ a. a ≡ spec.verdict s bs) (λ a e. e); through = told _ (through_of s bs); why = told _ (why_of s bs) }
