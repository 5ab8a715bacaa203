use Rattle.assembler.proofs.Common.{◌≡◌, drop, has}
use Rattle.assembler.proofs.hints.has.Given as goal

abbrev pub invariant-loop-at : goal.invariant-loop-at
invariant-loop-at l = has l.bytes l.part ≡ has (drop l.at l.bytes) l.part
