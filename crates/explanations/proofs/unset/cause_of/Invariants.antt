use Rattle.std.proofs.Common.{◌≡◌}
use Rattle.explanations.specs.Unset.{cause_of}
use Rattle.explanations.proofs.unset.cause_of.Given as goal

abbrev pub invariant-loop-index : goal.invariant-loop-index
invariant-loop-index l = l.found ≡ cause_of l.image l.register l.slots l.index
