use Rattle.control_flow.specs.Searches.{search_left}
use Rattle.control_flow.proofs.LoopBodies.{IsInside}
use Rattle.control_flow.proofs.loops.body_of.Given as goal

abbrev pub invariant-loop-from : goal.invariant-loop-from
invariant-loop-from l = IsInside l.nodes l.work.found.items l.work.frontier.items

abbrev pub invariant-loop-slot : goal.invariant-loop-slot
invariant-loop-slot l = IsInside l.nodes l.work.found.items l.work.frontier.items

abbrev pub decreases-loop-slot : goal.decreases-loop-slot
decreases-loop-slot l = search_left l.work.found.items l.work.frontier.items
