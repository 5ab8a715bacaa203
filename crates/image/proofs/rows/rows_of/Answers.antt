use Rattle.image.proofs.Common.{◌≡◌, ◌*◌, List, ℕ, Ok, Err, inr, sym, subst, err_from_is_err_and, row_at, rows_from}
use Rattle.image.proofs.CodeSpelling.{take-rest}
use Rattle.image.proofs.Loop.{row_goes_on, row_fails, rows_are_done}
use Rattle.image.proofs.rows.rows_of.Goals as goal

pub returns-in_err-row : goal.returns-in_err-row
returns-in_err-row c =
    let bytes = c.args.bytes.now in
    let failed = subst (λ (b : List ℕ). row_at c.loop-index.index b ≡ Err c.in_err-row.field-0.0)
    (take-rest (12 * c.loop-index.index) bytes) (sym c.in_err-row.ensures) in
    let p = err_from_is_err_and c.from_residual.result c.from_residual.ensures.1 in
    rw (p.1, p.2) (inr
    (row_fails c.in_err-row.field-0.0 c.loop-index.rows.items c.args.count c.loop-index.index
    bytes (rows_from c.args.count 0 bytes) c.loop-index-test.true failed
    c.loop-index.invariant))

pub loop-index-preserved : goal.loop-index-preserved
loop-index-preserved c =
    let bytes = c.args.bytes.now in
    let at = subst (λ (b : List ℕ). row_at c.loop-index.index b ≡ Ok c.in_ok-row.row)
    (take-rest (12 * c.loop-index.index) bytes) (sym c.in_ok-row.ensures) in
    rw (c.in_ok-push.ensures.items)
    (row_goes_on c.loop-index.rows.items c.args.count c.loop-index.index bytes c.in_ok-row.row
    (rows_from c.args.count 0 bytes) c.loop-index-test.true at c.loop-index.invariant)

pub returns : goal.returns
returns c = rows_are_done c.loop-index.rows.items c.args.count c.loop-index.index c.args.bytes.now
    (rows_from c.args.count 0 c.args.bytes.now) c.loop-index-test.false c.loop-index.invariant
