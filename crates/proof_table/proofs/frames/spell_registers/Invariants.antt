use Rattle.proof_table.proofs.Common.{◌≡◌, ◌++◌, take, flat_map, kind_bytes}
use Rattle.proof_table.proofs.frames.spell_registers.Given as goal

abbrev pub invariant-loop-kind : goal.invariant-loop-kind
invariant-loop-kind l =
    l.buffer.items ≡ l.initial.buffer.items ++ flat_map kind_bytes (take l.kind-index l.registers)
