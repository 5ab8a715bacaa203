-- The text about a refusal: the lines of a state, or of the instruction in refused control flow.
use Rattle.messages.proofs.Common.{◌≡◌, ℕ, Some, String, Result, Ok, Err, IfOk, IfSome, string_bytes}
use Rattle.std.specs.Result.{result_ok}
use Rattle.std.specs.declared.alloc.Global.{Global}
use Rattle.std.specs.declared.alloc.AllocError.{AllocError}
use Rattle.isa_model.specs.declared.instructions.Insn.{Insn}
use Rattle.isa_model.specs.Code.Instructions.{Program, fetch}
use Rattle.control_flow.specs.declared.errors.FlowError.{FlowError}
use Rattle.walks.specs.declared.refusals.Refusal.{Refusal}
use Rattle.walks.specs.declared.refusals.Refusal.TheVariants.{Flow}
use Rattle.walks.specs.declared.explained.Explanation.{Explanation}
use Rattle.walks.specs.Explained.{Explains}
use Rattle.explanations.specs.Flows.{flow_line}
use Rattle.explanations.specs.States.{lines_of}
use Rattle.messages.specs.Reasons.{IsReason}
use Rattle.messages.specs.Reasons.IsReason.{OfState, OfFlow}

-- the text of a refusal of control flow, unless memory ran out
pub of_flow : (p : Program) (e : Refusal) (slot : ℕ) (error : FlowError) (i : Insn)
    → (r : Result (String Global) AllocError) → e ≡ Flow error → fetch p slot ≡ Some i
    → IfOk r (λ text. string_bytes text ≡ flow_line p error slot i)
    → IfSome (result_ok r) (λ text. IsReason p e slot (string_bytes text))
of_flow p e slot error i (Ok text) is there said = OfFlow error i is there said
of_flow p e slot error i (Err failed) is there said = tt

-- the text of a state, unless memory ran out
pub of_state : (p : Program) (e : Refusal) (slot : ℕ) (found : Explanation) (i : Insn)
    → (r : Result (String Global) AllocError) → Explains p e slot found → fetch p slot ≡ Some i
    → IfOk r (λ text. string_bytes text ≡ lines_of p i e found)
    → IfSome (result_ok r) (λ text. IsReason p e slot (string_bytes text))
of_state p e slot found i (Ok text) explains there said = OfState found i explains there said
of_state p e slot found i (Err failed) explains there said = tt
