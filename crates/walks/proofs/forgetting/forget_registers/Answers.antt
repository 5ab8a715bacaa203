use Rattle.walks.proofs.Common.{◌≡◌, Some, sym, ◌∙◌, arith, iff_false, reg_numbered, number_of}
use Rattle.walks.proofs.ForgettingLoops.{kept_more_live, kept_more_dead}
use Rattle.walks.proofs.forgetting.forget_registers.Goals as goal
use Rattle.walks.proofs.forgetting.forget_registers.Goals.{then-not-has, else-not-has}

pub loop-number-preserved : goal.loop-number-preserved
loop-number-preserved c =
    let p = c.args.flow.now in
    let slot = c.args.slot in
    let n = c.loop-number.number in
    let r = c.in-Some.register in
    let found : Some r ≡ reg_numbered n = sym c.in-Some.is ∙ c.numbered.ensures in
    let is = number_of n r (omega arith) found in
    elim c.if-not-has.branch [
      | then-not-has w ↦
          rw (w.registers-is, w.from.ensures, w.unset.ensures)
          (kept_more_dead p slot n r c.args.registers.now c.loop-number.registers is (omega arith)
          (c.is_join.ensures.join.0 c.if-not-is_join.false)
          (λ live. iff_false c.has.ensures w.if-not-has.true ((c.live-live.ensures r).1 live))
          c.loop-number.invariant)
      | else-not-has w ↦
          rw w.registers-is
          (kept_more_live p slot n r c.args.registers.now c.loop-number.registers is
          ((c.live-live.ensures r).0 (c.has.ensures.0 w.if-not-has.false)) c.loop-number.invariant)
    ]
