use Rattle.kept_states.proofs.Common.{◌≡◌, drop, all_written, whole}
use Rattle.kept_states.proofs.kept_frames.KeptFrame.restore.Given as goal

-- the groups from here on are still to be written
abbrev pub invariant-loop-index : goal.invariant-loop-index
invariant-loop-index l =
    all_written l.frame (whole (drop l.index l.groups)) ≡ l.self
