use Rattle.control_flow.proofs.Common.{ℕ, ◌<◌, TargetOutside, Fails}
use Rattle.control_flow.proofs.targets.first_outside.Given as goal

abbrev pub invariant-loop-slot : goal.invariant-loop-slot
invariant-loop-slot l = (k : ℕ) → k < l.slot → ¬ Fails l.image TargetOutside k
