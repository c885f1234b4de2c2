use Rattle.std.proofs.Common.{◌≡◌, ℕ, ◌-◌, length, take, sym, ap, ◌∙◌, arith}
use Rattle.rows.specs.Row.{rows}
use Rattle.rows.specs.Wire.{wire}
use Rattle.rows.proofs.Held.{row_used, row_wire, row_fits}
use Rattle.rows.proofs.row.Lines.wire.Goals as goal

pub slice_bounds-result-end : goal.slice_bounds-result-end
slice_bounds-result-end c = omega (arith, c.from-used.ensures, row_used c.args.self.now, row_fits c.args.self.now)

pub returns : goal.returns
returns c =
    let row = c.args.self.now in
    let used : c.from-used.result - 0 ≡ length (wire (rows row)) = omega (arith, c.from-used.ensures, row_used row) in
    ap (λ (n : ℕ). take n row.bytes) used ∙ sym (row_wire row)
