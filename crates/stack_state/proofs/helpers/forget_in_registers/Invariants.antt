use Rattle.stack_state.proofs.Common.{◌≡◌, ◌++◌, map, take, drop, length, forgotten_register}
use Rattle.stack_state.proofs.helpers.forget_in_registers.Given as goal

abbrev pub invariant-loop-i : goal.invariant-loop-i
invariant-loop-i l = record {
  length : length l.kinds ≡ length l.fn.kinds;
  done : l.kinds
      ≡ map (forgotten_register l.index) (take l.i l.fn.kinds) ++ drop l.i l.fn.kinds;
}
