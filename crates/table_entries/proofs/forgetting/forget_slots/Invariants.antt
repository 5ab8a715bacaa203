use Rattle.table_entries.proofs.Common.{◌≡◌, length, Written, frame_slots, IsWeakerList}
use Rattle.table_entries.proofs.forgetting.forget_slots.Given as goal

abbrev pub invariant-loop-index : goal.invariant-loop-index
invariant-loop-index l = record {
  weaker : IsWeakerList (Written 0) l.fn.stack.slots l.stack.slots;
  long : length l.stack.slots ≡ frame_slots;
}
