use Rattle.rechecking.proofs.Common.{◌≡◌, true, length, sym, ap, ◌∙◌, arith, Some, slice_get-get_or, is_kind_kept}
use Rattle.rechecking.proofs.ChangeLaws.{FirstHave-next, FirstHave-fewer}
use Rattle.rechecking.proofs.changes.are_kinds_kept.Goals as goal

pub loop-index-preserved : goal.loop-index-preserved
loop-index-preserved c = λ k y less there.
    let xs = c.args.kinds.now in
    let i = c.loop-index.index in
    let x = c.index-kinds-index.result in
    FirstHave-next (λ k. is_kind_kept c.args.change k ≡ true) i xs x
    (slice_get-get_or xs i x c.loop-index-test.true ∙ ap Some (sym c.index-kinds-index.is))
    (sym c.is_kind_kept.ensures ∙ c.if-not-is_kind_kept.false)
    c.loop-index.invariant k y (omega arith) there

pub returns : goal.returns
returns c = λ yes.
    FirstHave-fewer (λ k. is_kind_kept c.args.change k ≡ true)
    (length c.args.kinds.now) c.loop-index.index c.args.kinds.now (omega arith)
    c.loop-index.invariant
