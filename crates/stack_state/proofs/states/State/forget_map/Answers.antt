use Rattle.stack_state.proofs.Common.{arith, common_steps}
use Rattle.stack_state.proofs.states.State.forget_map.Goals as goal

pub returns : goal.returns
returns c = grind (arith, common_steps)
