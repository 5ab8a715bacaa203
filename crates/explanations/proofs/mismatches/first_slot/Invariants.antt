use Rattle.explanations.specs.Fronts.{FrontCovers}
use Rattle.explanations.proofs.mismatches.first_slot.Given as goal

abbrev pub invariant-loop-slot : goal.invariant-loop-slot
invariant-loop-slot l = FrontCovers l.entry l.state l.frame 10 l.slot
