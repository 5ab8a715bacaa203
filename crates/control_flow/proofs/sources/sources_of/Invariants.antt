use Rattle.control_flow.proofs.Chains.{SourcesBelow}
use Rattle.control_flow.proofs.sources.sources_of.Given as goal

abbrev pub invariant-loop-slot : goal.invariant-loop-slot
invariant-loop-slot l = SourcesBelow l.nodes l.slot l.last.items l.before.items
