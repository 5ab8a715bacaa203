use Rattle.control_flow.proofs.FunctionsLaws.{FunctionsBelow}
use Rattle.control_flow.proofs.functions.functions_of.Given as goal

abbrev pub invariant-loop-slot : goal.invariant-loop-slot
invariant-loop-slot l = FunctionsBelow l.image l.slot l.functions.items l.function
