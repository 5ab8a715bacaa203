use Rattle.kept_states.proofs.Common.{◌≡◌, ◌++◌, List, drop, Part, register_parts}
use Rattle.kept_states.proofs.kept_frames.are_registers.Given as goal

-- where the parts of what is left come first in the rest, all parts came first in it
abbrev pub invariant-loop-index : goal.invariant-loop-index
invariant-loop-index l =
    (ys : List Part) → l.rest ≡ register_parts l.index (drop l.index l.registers) ++ ys
    → l.initial.rest ≡ register_parts 0 l.registers ++ ys
