use Rattle.control_flow.specs.Masks.{HasRegister}
use Rattle.walks.proofs.NumberLoops.{BesideBelow}
use Rattle.walks.proofs.numbers.forget_registers_beside.Given as goal

abbrev pub invariant-loop-number : goal.invariant-loop-number
invariant-loop-number l =
    BesideBelow (HasRegister l.kept) l.number l.initial.registers l.registers
