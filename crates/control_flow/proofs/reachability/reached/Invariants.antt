use Rattle.control_flow.specs.Searches.{search_left}
use Rattle.control_flow.proofs.SlotSearch.{IsReaching}
use Rattle.control_flow.proofs.reachability.reached.Given as goal

abbrev pub invariant-loop-slot : goal.invariant-loop-slot
invariant-loop-slot l = IsReaching l.image l.search.found.items l.search.frontier.items

abbrev pub decreases-loop-slot : goal.decreases-loop-slot
decreases-loop-slot l = search_left l.search.found.items l.search.frontier.items
