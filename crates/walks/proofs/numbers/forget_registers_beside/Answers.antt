use Rattle.walks.proofs.Common.{◌≡◌, Some, sym, ◌∙◌, arith, iff_false, reg_numbered, HasRegister, number_of}
use Rattle.walks.proofs.NumberLoops.{beside_kept, beside_forgotten}
use Rattle.walks.proofs.numbers.forget_registers_beside.Goals as goal
use Rattle.walks.proofs.numbers.forget_registers_beside.Goals.{then-not-has, else-not-has}

pub loop-number-preserved : goal.loop-number-preserved
loop-number-preserved c =
    let n = c.loop-number.number in
    let r = c.in-Some.register in
    let found : Some r ≡ reg_numbered n = sym c.in-Some.is ∙ c.numbered.ensures in
    let is = number_of n r (omega arith) found in
    elim c.if-not-has.branch [
      | then-not-has w ↦
          rw w.registers-is
          (beside_forgotten (HasRegister c.args.kept) n w.from.result r c.args.registers.now
          c.loop-number.registers _ _ is w.from.ensures (omega arith)
          (λ has. iff_false c.has.ensures w.if-not-has.true has) w.forget_number.ensures
          c.loop-number.invariant)
      | else-not-has w ↦
          rw w.registers-is
          (beside_kept (HasRegister c.args.kept) n r c.args.registers.now c.loop-number.registers is
          (c.has.ensures.0 w.if-not-has.false) c.loop-number.invariant)
    ]
