use Rattle.control_flow.proofs.Common.{ℕ, ◌<◌, FallsOff, Fails}
use Rattle.control_flow.proofs.functions.first_falling_off.Given as goal

abbrev pub invariant-loop-slot : goal.invariant-loop-slot
invariant-loop-slot l = (k : ℕ) → k < l.slot → ¬ Fails l.image FallsOff k
