use Rattle.std.proofs.Common.{IsTrue}
use Rattle.control_flow.proofs.KeptMasks.{AreWithinBelow}
use Rattle.control_flow.proofs.kept_numbers.kept_numbers.Given as goal

abbrev pub invariant-loop-slot : goal.invariant-loop-slot
invariant-loop-slot l = IsTrue l.known → AreWithinBelow l.slot l.masks.items l.tested
