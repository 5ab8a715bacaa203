use Rattle.std.proofs.Common.{rules}
use Rattle.stack_state.proofs.slots.forgotten_slot.Goals as goal

pub returns-in_default : goal.returns-in_default
returns-in_default c = search rules
