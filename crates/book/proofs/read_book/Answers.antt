use Rattle.std.proofs.Common.{◌≡◌, ℕ, ◌<◌, Option, Result, ◌+◌, ◌-◌, List, [], ◌∷◌, ◌++◌, length, None, Some, Ok, Err, sym, ap, ◌∙◌, arith}
use Rattle.std.specs.Prelude.{MatchOption}
use Rattle.numbers.specs.Bytes.{two_bytes}
use Rattle.std.proofs.lemmas.List.{nil_from_length}
use Rattle.std.proofs.lemmas.Option.{MatchOption-at_some, MatchOption-at_none}
use Rattle.std.proofs.lemmas.Bool.{eqb-true, eqb-false}
use Rattle.narrow.specs.Term.{Bytes}
use Rattle.std.specs.Option.{ok_or}
use Rattle.trouble.proofs.Chains.{stops}
use Rattle.lines.specs.declared.Fault.{Fault}
use Rattle.lines.specs.declared.Fault.TheVariants.{Shape}
use Rattle.codec.specs.Format.{two_byte}
use Rattle.codec.proofs.Combined.{two_byte_join}
use Rattle.codec.proofs.Steps.{two_byte_short}
use Rattle.book.specs.Booking.{BookView}
use Rattle.book.specs.Keys.{KeyView, keys_from}
use Rattle.book.specs.Entries.{key_view, keys_view}
use Rattle.book.specs.Views.{book_view}
use Rattle.book.proofs.Books.{not_read, more_left, all_read, other_kind, no_house, no_count, faulty_keys, keys_read, keys_on, keys_stop}
use Rattle.book.proofs.Keyed.{new_key_only, done_reading}
use Rattle.book.proofs.read_book.Goals as goal

-- the count, as it was read
count_read : (o : Option ℕ) (n : ℕ) (before after : Bytes) → o ≡ Some n → MatchOption o ((length before < 2) × (after ≡ before)) (λ m. before ≡ two_bytes m ++ after) → two_byte.read before ≡ Ok (n, after)
count_read o n before after some read = ap two_byte.read (MatchOption-at_some _ _ n some read) ∙ two_byte_join n after

-- the keys are read from a book that has none
keys_begun : (v : BookView) (house : Bytes) (n : ℕ) (bs : Bytes) (r : Result (List KeyView × Bytes) Fault) → v ≡ record { house = house; keys = [] } → keys_from n v.keys bs ≡ r → keys_from n [] bs ≡ r
keys_begun v house n bs r none same = ap (λ (b : BookView). keys_from n b.keys bs) (sym none) ∙ same

pub returns-in_err-read_kind : goal.returns-in_err-read_kind
returns-in_err-read_kind c =
    let q = c.in_err-read_kind.ensures in
    stops book_view c.from_residual.result c.from_residual.ensures.1 (sym (not_read c.args.bytes.now Shape (other_kind c.args.bytes.now (λ rest e. q.1 rest (c.new-reader.ensures ∙ e))) ∙ ap Err (sym q.0)))

pub returns-in_err-house : goal.returns-in_err-house
returns-in_err-house c =
    let kind = sym c.new-reader.ensures ∙ c.in_ok-read_kind.ensures in
    stops book_view c.from_residual-in_err-house.result c.from_residual-in_err-house.ensures.1 (sym (not_read c.args.bytes.now _ (no_house c.args.bytes.now _ kind _ c.in_err-house.ensures)))

pub returns-in_err-count : goal.returns-in_err-count
returns-in_err-count c =
    let kind = sym c.new-reader.ensures ∙ c.in_ok-read_kind.ensures in
    let none : c.number.result ≡ None = grind arith in
    let short = MatchOption-at_none _ _ none c.number.ensures in
    let told = c.in_err-count.ensures.value ∙ ap (λ (o : Option ℕ). ok_or o Shape) none in
    let fault : ◌≡◌ {A = Fault} c.in_err-count.field-0.0 Shape = cc in
    stops book_view c.from_residual-in_err-count.result c.from_residual-in_err-count.ensures.1 (sym (not_read c.args.bytes.now Shape (no_count c.args.bytes.now _ kind _ _ c.in_ok-house.ensures Shape (two_byte_short c.read.new.reader.rest.now short.0)) ∙ ap Err (sym fault)))

pub returns-in_err-key : goal.returns-in_err-key
returns-in_err-key c =
    let kind = sym c.new-reader.ensures ∙ c.in_ok-read_kind.ensures in
    let many = count_read _ c.in_ok-count.count c.read.new.reader.rest.now c.number.new.self.rest.now c.in_ok-count.ensures.ok_part c.number.ensures in
    let run = keys_begun _ _ _ _ _ c.new-book.ensures c.loop.invariant.1 in
    let left = c.in_ok-count.count - c.loop.counter in
    let stop = keys_stop left (keys_view c.loop.book.keys.entries) c.loop.reader.rest.now (omega (arith, c.loop-test.true)) _ c.in_err-key.ensures in
    stops book_view c.from_residual-in_err-key.result c.from_residual-in_err-key.ensures.1 (sym (not_read c.args.bytes.now _ (faulty_keys c.args.bytes.now _ kind _ _ c.in_ok-house.ensures _ _ many _ (run ∙ stop))))

pub put-requires : goal.put-requires
put-requires c = (new_key_only (keys_view c.loop.book.keys.entries) (key_view c.in_ok-key.key) _ _ c.in_ok-key.ensures).0

pub loop-preserved : goal.loop-preserved
loop-preserved c =
    let ks = keys_view c.loop.book.keys.entries in
    let left = c.in_ok-count.count - c.loop.counter in
    let one : left - 1 ≡ c.in_ok-count.count - (c.loop.counter + 1) = omega arith in
    let longer : keys_view c.put.new.self.keys.entries ≡ ks ++ key_view c.in_ok-key.key ∷ [] = ap (λ (b : BookView). b.keys) c.in_ok-put.ensures in (
      ap (λ (b : BookView). b.house) c.in_ok-put.ensures ∙ c.loop.invariant.0,
      c.loop.invariant.1 ∙
          (keys_on left ks c.loop.reader.rest.now (omega (arith, c.loop-test.true)) (key_view c.in_ok-key.key) _ c.in_ok-key.ensures ∙
          λ i. keys_from (one i) (sym longer i) c.read_key.new.reader.rest.now),
    )

pub returns-then-not-is_empty : goal.returns-then-not-is_empty
returns-then-not-is_empty c =
    let kind = sym c.new-reader.ensures ∙ c.in_ok-read_kind.ensures in
    let many = count_read _ c.in_ok-count.count c.read.new.reader.rest.now c.number.new.self.rest.now c.in_ok-count.ensures.ok_part c.number.ensures in
    let run = keys_begun _ _ _ _ _ c.new-book.ensures c.loop.invariant.1 in
    let done = done_reading (c.in_ok-count.count - c.loop.counter) (keys_view c.loop.book.keys.entries) c.loop.reader.rest.now (omega (arith, c.loop-test.false)) in
    rw c.into.ensures
    (sym (more_left c.args.bytes.now _ _ (keys_read c.args.bytes.now _ kind _ _ c.in_ok-house.ensures _ _ many _ _ (run ∙ done))
    (λ e. eqb-false _ _ (sym c.if-not-is_empty.ensures) (ap length e))))

pub returns : goal.returns
returns c =
    let kind = sym c.new-reader.ensures ∙ c.in_ok-read_kind.ensures in
    let many = count_read _ c.in_ok-count.count c.read.new.reader.rest.now c.number.new.self.rest.now c.in_ok-count.ensures.ok_part c.number.ensures in
    let run = keys_begun _ _ _ _ _ c.new-book.ensures c.loop.invariant.1 in
    let done = done_reading (c.in_ok-count.count - c.loop.counter) (keys_view c.loop.book.keys.entries) c.loop.reader.rest.now (omega (arith, c.loop-test.false)) in
    let house = c.loop.invariant.0 ∙ ap (λ (b : BookView). b.house) c.new-book.ensures in
    sym (all_read c.args.bytes.now _ _ (keys_read c.args.bytes.now _ kind _ _ c.in_ok-house.ensures _ _ many _ _ (run ∙ done))
    (nil_from_length c.loop.reader.rest.now (eqb-true _ _ (sym c.if-not-is_empty.ensures))) ∙
    ap (λ (b : Bytes). Ok (record { house = b; keys = keys_view c.loop.book.keys.entries })) (sym house))
