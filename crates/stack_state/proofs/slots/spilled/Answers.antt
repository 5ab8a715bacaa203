use Rattle.std.proofs.Common.{refl, rules}
use Rattle.stack_state.proofs.slots.spilled.Goals as goal

pub returns-then-is_any : goal.returns-then-is_any
returns-then-is_any c = rw c.in-Number.is (refl, c.is_any.ensures.0 c.if-is_any.true)

pub returns-in_default : goal.returns-in_default
returns-in_default c = search rules
