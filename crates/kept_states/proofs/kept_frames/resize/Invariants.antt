use Rattle.std.proofs.Common.{◌≡◌, length}
use Rattle.kept_states.proofs.kept_frames.resize.Given as goal

-- there are as many call frames as were counted
abbrev pub invariant-loop-more : goal.invariant-loop-more
invariant-loop-more l = length l.frames.items ≡ l._more
