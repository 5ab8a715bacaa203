use Rattle.rechecking.specs.Changes.{IsFrameUnchanged, FirstHave}
use Rattle.rechecking.proofs.changes.frames_kept.Given as goal

abbrev pub invariant-loop-index : goal.invariant-loop-index
invariant-loop-index l = FirstHave (IsFrameUnchanged l.change) l.index l.frames
