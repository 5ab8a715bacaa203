use Rattle.std.proofs.Common.{◌≡◌, take, length}
use Rattle.kept_states.proofs.kept_frames.restore_all.Given as goal

-- the call frames up to here are the kept ones, and there are as many of them
abbrev pub invariant-loop-index : goal.invariant-loop-index
invariant-loop-index l =
    (length l.frames.items ≡ length l.kept) × (take l.index l.frames.items ≡ take l.index l.kept)
