use Rattle.rechecking.proofs.Common.{◌≡◌, true, is_slot_kept, FirstHave}
use Rattle.rechecking.proofs.changes.are_slots_kept.Given as goal

abbrev pub invariant-loop-index : goal.invariant-loop-index
invariant-loop-index l = FirstHave (λ s. is_slot_kept l.change s ≡ true) l.index l.slots
