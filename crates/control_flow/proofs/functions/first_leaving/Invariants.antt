use Rattle.control_flow.proofs.Common.{ℕ, ◌<◌, OtherFunction, Fails}
use Rattle.control_flow.proofs.functions.first_leaving.Given as goal

abbrev pub invariant-loop-slot : goal.invariant-loop-slot
invariant-loop-slot l = (k : ℕ) → k < l.slot → ¬ Fails l.image OtherFunction k
