use Rattle.stack_state.specs.Marks.{AreFree, NamesOther, Marks}
use Rattle.stack_state.proofs.identities.mark_registers.Given as goal

-- the places before it are marked
abbrev pub invariant-loop-index : goal.invariant-loop-index
invariant-loop-index l =
    Marks (AreFree (NamesOther l.sort l.registers) l.index) l.index l.initial.named l.named
