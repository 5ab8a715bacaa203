use Rattle.exact_io.proofs.Common.{length, take, ◌-◌, ◌≤◌, Consumes}
use Rattle.exact_io.proofs.reading.fill.Given as goal

abbrev pub invariant-loop-at : goal.invariant-loop-at
invariant-loop-at g l = (l.at ≤ length l.buffer)
    × Consumes (g.R.Read.remaining l.initial.source) (g.R.Read.remaining l.source)
    (take l.at l.buffer)

abbrev pub decreases-loop-at : goal.decreases-loop-at
decreases-loop-at g l = length l.initial.buffer - l.at
