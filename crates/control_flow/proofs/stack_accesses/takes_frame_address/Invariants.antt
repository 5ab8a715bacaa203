use Rattle.control_flow.proofs.Common.{ℕ, ◌<◌, TakesFrameAddressAt}
use Rattle.control_flow.proofs.stack_accesses.takes_frame_address.Given as goal

abbrev pub invariant-loop-slot : goal.invariant-loop-slot
invariant-loop-slot l = (k : ℕ) → k < l.slot → ¬ TakesFrameAddressAt l.image k
