use Rattle.explanations.specs.Fronts.{FrontCovers}
use Rattle.explanations.proofs.mismatches.difference.Given as goal

abbrev pub invariant-loop-frame : goal.invariant-loop-frame
invariant-loop-frame l = FrontCovers l.entry l.state l.frame 0 0
