use Rattle.control_flow.proofs.Common.{ℕ, ◌<◌, SecondHalf, Fails}
use Rattle.control_flow.proofs.targets.first_into_half.Given as goal

abbrev pub invariant-loop-slot : goal.invariant-loop-slot
invariant-loop-slot l = (k : ℕ) → k < l.slot → ¬ Fails l.image SecondHalf k
