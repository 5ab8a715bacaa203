use Rattle.walks.proofs.NumberLoops.{NumbersBelow}
use Rattle.walks.proofs.numbers.are_numbers.Given as goal

abbrev pub invariant-loop-number : goal.invariant-loop-number
invariant-loop-number l = NumbersBelow l.live l.registers l.number
