use Rattle.frames.proofs.Common.{length, take, ◌-◌, ◌≤◌, Consumes}
use Rattle.frames.proofs.filling.fill.Given as goal

abbrev pub invariant-loop-at : goal.invariant-loop-at
invariant-loop-at g l = (l.at ≤ length l.buffer)
    × Consumes (g.R.Source.remaining l.initial.source) (g.R.Source.remaining l.source)
    (take l.at l.buffer)

abbrev pub decreases-loop-at : goal.decreases-loop-at
decreases-loop-at g l = length l.initial.buffer - l.at
