use Rattle.explanations.proofs.FrontLaws.{KindsKeptTo}
use Rattle.explanations.proofs.fronts.keep_registers.Given as goal

abbrev pub invariant-loop-index : goal.invariant-loop-index
invariant-loop-index l = KindsKeptTo l.count l.index l.initial.registers l.registers
