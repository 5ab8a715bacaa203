use Rattle.std.proofs.Common.{◌≡◌, take}
use Rattle.kept_states.proofs.kept_frames.keep_all.Given as goal

abbrev pub invariant-loop-index : goal.invariant-loop-index
invariant-loop-index l = l.kept.items ≡ take l.index l.frames
