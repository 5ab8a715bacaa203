use Rattle.stack_state.proofs.Common.{arith, common_steps}
use Rattle.stack_state.proofs.states.State.learn.Goals as goal

pub returns : goal.returns
returns c = grind (arith, common_steps)
