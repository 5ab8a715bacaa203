use Rattle.explanations.proofs.Common.{◌≡◌, ◌-◌, ◌+◌, stack_slots_of, first_open}
use Rattle.explanations.proofs.slots.first_open.Given as goal

abbrev pub invariant-loop-at : goal.invariant-loop-at
invariant-loop-at l =
    first_open (stack_slots_of l.state l.frame) l.at (l.slot + l.count - l.at)
    ≡ first_open (stack_slots_of l.state l.frame) l.slot l.count
