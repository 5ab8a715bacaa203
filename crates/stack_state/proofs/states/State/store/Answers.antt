use Rattle.stack_state.proofs.Common.{arith, common_steps}
use Rattle.stack_state.proofs.states.State.store.Goals as goal

pub returns-in-Some : goal.returns-in-Some
returns-in-Some c = grind (arith, common_steps)
