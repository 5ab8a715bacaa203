use Rattle.image.proofs.Writing.{on_err, AppendsBeginning-code}
use Rattle.image.proofs.code.write_code.Goals as goal

pub returns-in_err-write_insn-clause-err : goal.returns-in_err-write_insn-clause-err
returns-in_err-write_insn-clause-err g c =
    on_err _ c.from_residual.result
    (AppendsBeginning-code _ _ _ c.args.slots.now c.loop-slot.slot-index c.in-Some.insn
    c.loop-slot-test.true c.in-Some.is c.loop-slot.invariant c.in_err-write_insn.ensures.err)
