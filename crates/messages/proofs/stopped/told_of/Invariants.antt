use Rattle.messages.proofs.Common.{◌≡◌, ◌-◌, ◌*◌, ◌^◌, ◌≤◌, take, sum_by, told_at}
use Rattle.messages.proofs.stopped.told_of.Given as goal

abbrev pub invariant-loop-found : goal.invariant-loop-found
invariant-loop-found l =
    (l.count ≡ sum_by told_at (take l.found-index l.first))
    × (l.count ≤ l.found-index * (2 ^ 32 - 1))
