use Rattle.explanations.specs.Fronts.{FrontCovers}
use Rattle.explanations.proofs.mismatches.first_register.Given as goal

abbrev pub invariant-loop-register : goal.invariant-loop-register
invariant-loop-register l = FrontCovers l.entry l.state l.frame l.register 0
