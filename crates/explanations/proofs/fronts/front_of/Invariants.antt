use Rattle.explanations.proofs.FrontLaws.{FrontTo}
use Rattle.explanations.proofs.fronts.front_of.Given as goal

abbrev pub invariant-loop-index : goal.invariant-loop-index
invariant-loop-index l =
    FrontTo l.entry l.last l.register_count l.slot_count l.index l.front
