use Rattle.kept_states.proofs.Common.{◌≡◌, drop, all_written, held_registers}
use Rattle.kept_states.proofs.held_places.HeldPlaces.see_registers.Given as goal

-- the registers from here on are still to be written
abbrev pub invariant-loop-index : goal.invariant-loop-index
invariant-loop-index l =
    all_written l.frame (held_registers l.self l.any l.index (drop l.index l.registers))
    ≡ all_written l.initial.frame (held_registers l.self l.any 0 l.registers)
