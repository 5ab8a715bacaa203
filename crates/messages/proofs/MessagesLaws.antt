-- Messages of which only a beginning was written.
use Rattle.messages.proofs.Common.{ℕ, List, Option, Some, None, AppendsBeginning, AppendsBeginning-first, entry_position, insn_position, step_position}
use Rattle.isa_model.specs.declared.instructions.Insn.{Insn}

-- writing the index of an entry failed, so its slot, if it is known, was not written
pub step_failed : (old new : Option (List ℕ)) (index : ℕ) (position : Option (ℕ × Insn))
    → AppendsBeginning old new (entry_position index)
    → AppendsBeginning old new (step_position index position)
step_failed old new index None h = h
step_failed old new index (Some (slot, insn)) h =
    AppendsBeginning-first old new (entry_position index) (insn_position slot insn) h
