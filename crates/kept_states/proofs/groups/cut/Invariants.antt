use Rattle.kept_states.proofs.Common.{◌≡◌, ◌++◌, whole}
use Rattle.kept_states.proofs.groups.cut.Given as goal

-- the rest is still to be put into groups
abbrev pub invariant-loop-group : goal.invariant-loop-group
invariant-loop-group l = whole l.groups.items ++ l.rest ≡ l.parts
