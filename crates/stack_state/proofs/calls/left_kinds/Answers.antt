use Rattle.stack_state.proofs.Common.{arith, common_steps}
use Rattle.stack_state.proofs.calls.left_kinds.Goals as goal

pub returns : goal.returns
returns c = grind (arith, common_steps)
