use Rattle.std.proofs.Common.{◌≡◌, true, false, is_some, Err, sym, ap, ◌∙◌}
use Rattle.std.proofs.lemmas.Result.{err_from_is_err_and}
use Rattle.std.proofs.lemmas.Bool.{not_from_true, not_from_false}
use Rattle.codec.specs.Things.{key_kind, key_number, mac}
use Rattle.codec.proofs.Steps.{behind_on, behind_other, both_first, both_second, both_on, only_on, only_other, only_stop}
use Rattle.book.specs.Keys.{free_number, taken}
use Rattle.book.specs.Entries.{keys_view}
use Rattle.book.proofs.Looked.{some_view}
use Rattle.book.proofs.keys.read_key.Goals as goal

pub returns-in_err-read_kind : goal.returns-in_err-read_kind
returns-in_err-read_kind c =
    let p = err_from_is_err_and c.from_residual.result c.from_residual.ensures.1 in
    let q = c.in_err-read_kind.ensures in
    rw (p.1, p.2) (behind_other _ key_kind c.args.reader.now.rest.now q.1 ∙ ap Err (sym q.0))

pub returns-in_err-number : goal.returns-in_err-number
returns-in_err-number c =
    let p = err_from_is_err_and c.from_residual-in_err-number.result c.from_residual-in_err-number.ensures.1 in
    let ks = keys_view c.args.book.now.keys.entries in
    rw (p.1, p.2) (behind_on _ key_kind _ _ c.in_ok-read_kind.ensures ∙ both_first (free_number ks) mac _ _ (only_stop key_number _ _ _ _ c.in_err-number.ensures))

pub returns-then-is_some : goal.returns-then-is_some
returns-then-is_some c =
    let ks = keys_view c.args.book.now.keys.entries in
    let n = c.in_ok-number.number.number in
    let there : taken ks n ≡ true = sym (ap is_some c.secret.ensures) ∙ (some_view c.secret.result ∙ sym c.if-is_some.ensures) in
    behind_on _ key_kind _ _ c.in_ok-read_kind.ensures ∙
    both_first (free_number ks) mac _ _ (only_other key_number _ _ _ n _ c.in_ok-number.ensures (not_from_true (taken ks n) there))

pub returns-in_err-secret : goal.returns-in_err-secret
returns-in_err-secret c =
    let p = err_from_is_err_and c.from_residual-in_err-secret.result c.from_residual-in_err-secret.ensures.1 in
    let ks = keys_view c.args.book.now.keys.entries in
    let n = c.in_ok-number.number.number in
    let free : taken ks n ≡ false = sym (ap is_some c.secret.ensures) ∙ (some_view c.secret.result ∙ sym c.if-is_some.ensures) in
    rw (p.1, p.2)
    (behind_on _ key_kind _ _ c.in_ok-read_kind.ensures ∙
    both_second (free_number ks) mac _ n _ (only_on key_number _ _ _ n _ c.in_ok-number.ensures (not_from_false (taken ks n) free)) _ c.in_err-secret.ensures)

pub returns : goal.returns
returns c =
    let ks = keys_view c.args.book.now.keys.entries in
    let n = c.in_ok-number.number.number in
    let free : taken ks n ≡ false = sym (ap is_some c.secret.ensures) ∙ (some_view c.secret.result ∙ sym c.if-is_some.ensures) in
    behind_on _ key_kind _ _ c.in_ok-read_kind.ensures ∙
    both_on (free_number ks) mac _ n _ (only_on key_number _ _ _ n _ c.in_ok-number.ensures (not_from_false (taken ks n) free)) _ _ c.in_ok-secret.ensures
