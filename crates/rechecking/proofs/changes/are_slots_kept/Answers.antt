use Rattle.rechecking.proofs.Common.{◌≡◌, true, length, sym, ap, ◌∙◌, arith, Some, slice_get-get_or, is_slot_kept}
use Rattle.rechecking.proofs.ChangeLaws.{FirstHave-next, FirstHave-fewer}
use Rattle.rechecking.proofs.changes.are_slots_kept.Goals as goal

pub loop-index-preserved : goal.loop-index-preserved
loop-index-preserved c = λ k y less there.
    let xs = c.args.slots.now in
    let i = c.loop-index.index in
    let x = c.index-slots-index.result in
    FirstHave-next (λ s. is_slot_kept c.args.change s ≡ true) i xs x
    (slice_get-get_or xs i x c.loop-index-test.true ∙ ap Some (sym c.index-slots-index.is))
    (sym c.is_slot_kept.ensures ∙ c.if-not-is_slot_kept.false)
    c.loop-index.invariant k y (omega arith) there

pub returns : goal.returns
returns c = λ yes.
    FirstHave-fewer (λ s. is_slot_kept c.args.change s ≡ true)
    (length c.args.slots.now) c.loop-index.index c.args.slots.now (omega arith)
    c.loop-index.invariant
