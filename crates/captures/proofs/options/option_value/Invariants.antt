use Rattle.captures.proofs.Common.{◌≡◌, length, option_value}
use Rattle.captures.proofs.options.option_value.Given as goal

abbrev pub invariant-loop-rest : goal.invariant-loop-rest
invariant-loop-rest l =
    option_value l.order l.code l.options ≡ option_value l.order l.code l.rest

abbrev pub decreases-loop-rest : goal.decreases-loop-rest
decreases-loop-rest l = length l.rest
