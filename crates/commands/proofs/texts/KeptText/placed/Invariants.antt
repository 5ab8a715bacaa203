use Rattle.commands.proofs.Common.{◌≡◌, ◌≤◌, drop, length, all_placed}
use Rattle.commands.proofs.texts.KeptText.placed.Given as goal

abbrev pub invariant-loop-at : goal.invariant-loop-at
invariant-loop-at l = record {
  placed : l.placed ≡ all_placed (drop l.at l.self.gaps.items) l.fn.error;
  within : l.at ≤ length l.self.gaps.items;
}

abbrev pub decreases-loop-at : goal.decreases-loop-at
decreases-loop-at l = l.at
