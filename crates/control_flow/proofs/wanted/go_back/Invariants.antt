use Rattle.control_flow.proofs.Chains.{HasFollowedJumps, left_of}
use Rattle.control_flow.proofs.wanted.go_back.Given as goal

abbrev pub invariant-loop-from : goal.invariant-loop-from
invariant-loop-from l =
    HasFollowedJumps l.nodes l.slot l.from l.fn.work.found.items l.fn.work.frontier.items
    l.work.found.items l.work.frontier.items

abbrev pub decreases-loop-from : goal.decreases-loop-from
decreases-loop-from l = left_of l.from
