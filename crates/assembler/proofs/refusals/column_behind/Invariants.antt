use Rattle.assembler.proofs.Common.{◌≡◌, ◌+◌, ◌≤◌, take, column_behind}
use Rattle.assembler.proofs.refusals.column_behind.Given as goal

abbrev pub invariant-loop-byte : goal.invariant-loop-byte
invariant-loop-byte l = record {
  so_far : l.column
      ≡ column_behind (take l.byte-index l.front);
  few : l.column ≤ l.byte-index + 1;
}
