use Rattle.explanations.proofs.Common.{◌≡◌, function_at}
use Rattle.explanations.proofs.flows.function_at.Given as goal

abbrev pub invariant-loop-from : goal.invariant-loop-from
invariant-loop-from l = l.found ≡ function_at l.image l.slot l.from
