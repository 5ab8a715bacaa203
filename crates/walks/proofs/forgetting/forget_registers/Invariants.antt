use Rattle.walks.proofs.ForgettingLoops.{KeptBelow}
use Rattle.walks.proofs.forgetting.forget_registers.Given as goal

abbrev pub invariant-loop-number : goal.invariant-loop-number
invariant-loop-number l = KeptBelow l.flow l.slot l.number l.initial.registers l.registers
