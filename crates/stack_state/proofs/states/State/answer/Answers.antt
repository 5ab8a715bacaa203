use Rattle.std.proofs.Common.{rules}
use Rattle.stack_state.proofs.states.State.answer.Goals as goal

pub returns : goal.returns
returns c = search rules
