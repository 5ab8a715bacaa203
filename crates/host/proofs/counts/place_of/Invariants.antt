use Rattle.host.proofs.Common.{◌≤◌, place_of}
use Rattle.host.proofs.counts.place_of.Given as goal

abbrev pub invariant-loop-place : goal.invariant-loop-place
invariant-loop-place l = l.place ≤ place_of l.reasons l.reason
