use Rattle.captures.proofs.Common.{◌≡◌, length, reason_in}
use Rattle.captures.proofs.reasons.reason_in.Given as goal

abbrev pub invariant-loop-rest : goal.invariant-loop-rest
invariant-loop-rest l = reason_in l.order l.options ≡ reason_in l.order l.rest

abbrev pub decreases-loop-rest : goal.decreases-loop-rest
decreases-loop-rest l = length l.rest
