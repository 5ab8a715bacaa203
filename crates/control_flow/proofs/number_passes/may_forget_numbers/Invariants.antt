use Rattle.control_flow.proofs.InputLaws.{KnowsBelow}
use Rattle.control_flow.proofs.number_passes.may_forget_numbers.Given as goal

abbrev pub invariant-loop-slot : goal.invariant-loop-slot
invariant-loop-slot l = KnowsBelow l.image l.slot l.takes
