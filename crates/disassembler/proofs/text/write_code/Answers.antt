use Rattle.disassembler.proofs.Common.{slot_text, Some, None, on_err}
use Rattle.disassembler.proofs.Written.{text_failed}
use Rattle.disassembler.proofs.text.write_code.Goals as goal

pub returns-in_err-write_insn-clause-err : goal.returns-in_err-write_insn-clause-err
returns-in_err-write_insn-clause-err g c =
    on_err _ c.from_residual.result
    (text_failed slot_text _ _ _ c.args.slots.now c.loop-slot.slot-index
    (Some c.in-Some.insn) None c.loop-slot-test.true c.in-Some.is c.loop-slot.invariant
    c.in_err-write_insn.ensures.err)
