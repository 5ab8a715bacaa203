use Rattle.state_index.proofs.Common.{◌≡◌, ◌++◌, drop, register_parts}
use Rattle.state_index.proofs.parts.push_registers.Given as goal

-- the parts of the registers from here on are still missing
abbrev pub invariant-loop-index : goal.invariant-loop-index
invariant-loop-index l =
    l.parts.items ++ register_parts l.index (drop l.index l.registers)
    ≡ l.initial.parts.items ++ register_parts 0 l.registers
