use Rattle.control_flow.proofs.Common.{ℕ, ◌<◌, TakesInputAt}
use Rattle.control_flow.proofs.number_passes.has_input.Given as goal

abbrev pub invariant-loop-slot : goal.invariant-loop-slot
invariant-loop-slot l = (k : ℕ) → k < l.slot → ¬ TakesInputAt l.image k
