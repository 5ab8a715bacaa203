-- What is said of a refusal besides its sentence and its slot.
use Rattle.std.specs.Prelude.{◌≡◌, ℕ, List, Some}
use Rattle.isa_model.specs.declared.instructions.Insn.{Insn}
use Rattle.isa_model.specs.Code.Instructions.{Program, fetch}
use Rattle.control_flow.specs.declared.errors.FlowError.{FlowError}
use Rattle.walks.specs.declared.refusals.Refusal.{Refusal}
use Rattle.walks.specs.declared.refusals.Refusal.TheVariants.{Flow}
use Rattle.walks.specs.declared.explained.Explanation.{Explanation}
use Rattle.walks.specs.Explained.{Explains}
use Rattle.explanations.specs.Flows.{flow_line}
use Rattle.explanations.specs.States.{lines_of}

-- the lines of a state in which the program gets this refusal, at the slot; or the line of
-- the instruction there, where control flow is refused
pub data IsReason (p : Program) (e : Refusal) (slot : ℕ) (text : List ℕ) : Type 0 where
  OfState : (found : Explanation) (insn : Insn) → Explains p e slot found
      → fetch p slot ≡ Some insn → text ≡ lines_of p insn e found → IsReason p e slot text
  OfFlow : (error : FlowError) (insn : Insn) → e ≡ Flow error → fetch p slot ≡ Some insn
      → text ≡ flow_line p error slot insn → IsReason p e slot text
