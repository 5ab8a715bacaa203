use Rattle.std.proofs.Common.{◌≡◌, take}
use Rattle.state_index.proofs.equality.are_same.Given as goal

-- the parts up to here are the same
abbrev pub invariant-loop-index : goal.invariant-loop-index
invariant-loop-index l = take l.index l.parts ≡ take l.index l.others
