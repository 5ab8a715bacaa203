use Rattle.kept_states.proofs.Common.{◌≡◌, drop, all_written}
use Rattle.kept_states.proofs.groups.write_all.Given as goal

-- the parts from here on are still to be written
abbrev pub invariant-loop-index : goal.invariant-loop-index
invariant-loop-index l =
    all_written l.frame (drop l.index l.parts) ≡ all_written l.initial.frame l.parts
