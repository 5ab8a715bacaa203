use Rattle.explanations.proofs.Common.{◌≡◌, first_leading}
use Rattle.explanations.proofs.flows.first_leading.Given as goal

abbrev pub invariant-loop-slot : goal.invariant-loop-slot
invariant-loop-slot l = l.found ≡ first_leading l.image l.only_calls l.to l.slot
