use Rattle.std.proofs.Common.{◌≡◌}
use Rattle.explanations.specs.Loops.{last_back}
use Rattle.explanations.proofs.loops.last_back.Given as goal

abbrev pub invariant-loop-index : goal.invariant-loop-index
invariant-loop-index l = l.found ≡ last_back l.image l.slots l.index
