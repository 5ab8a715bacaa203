use Rattle.table_entries.proofs.Common.{◌≡◌, length, Unset, IsWeakerList}
use Rattle.table_entries.proofs.forgetting.forget_registers.Given as goal

abbrev pub invariant-loop-index : goal.invariant-loop-index
invariant-loop-index l = record {
  weaker : IsWeakerList Unset l.fn.registers l.registers;
  long : length l.registers ≡ 10;
}
