use Rattle.control_flow.proofs.Common.{ℕ, ◌<◌, Unreachable, Fails}
use Rattle.control_flow.proofs.reachability.first_unreached.Given as goal

abbrev pub invariant-loop-slot : goal.invariant-loop-slot
invariant-loop-slot l = (k : ℕ) → k < l.slot → ¬ Fails l.image Unreachable k
