use Rattle.assembler.proofs.Common.{◌≡◌, ◌+◌, ◌≤◌, take, line_behind}
use Rattle.assembler.proofs.refusals.line_behind.Given as goal

abbrev pub invariant-loop-byte : goal.invariant-loop-byte
invariant-loop-byte l = record {
  so_far : l.line
      ≡ line_behind (take l.byte-index l.front);
  few : l.line ≤ l.byte-index + 1;
}
