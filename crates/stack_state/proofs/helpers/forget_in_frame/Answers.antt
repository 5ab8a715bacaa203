use Rattle.std.proofs.Common.{rules}
use Rattle.stack_state.proofs.helpers.forget_in_frame.Goals as goal

pub returns : goal.returns
returns c = search rules
