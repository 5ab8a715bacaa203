use Rattle.std.proofs.Common.{◌≡◌, take}
use Rattle.kept_states.proofs.kept_frames.are_frames.Given as goal

-- the call frames up to here are the ones that were kept
abbrev pub invariant-loop-index : goal.invariant-loop-index
invariant-loop-index l = take l.index l.kept ≡ take l.index l.frames
