use Rattle.control_flow.proofs.Working.{IsWorking, work_left}
use Rattle.control_flow.proofs.wanted.wanted_homes.Given as goal

abbrev pub invariant-loop-slot : goal.invariant-loop-slot
invariant-loop-slot l =
    IsWorking l.nodes l.masks.items l.work.found.items l.work.frontier.items

abbrev pub decreases-loop-slot : goal.decreases-loop-slot
decreases-loop-slot l = work_left l.nodes l.masks.items l.work.frontier.items
