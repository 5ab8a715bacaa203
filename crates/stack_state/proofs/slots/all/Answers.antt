use Rattle.std.proofs.Common.{arith}
use Rattle.stack_state.proofs.slots.all.Goals as goal

pub returns : goal.returns
returns c = λ x. (
  λ h. let only = c.between.ensures.only x h in let most = c.greatest.ensures in omega arith,
  λ h. let most = c.greatest.ensures in c.between.ensures.contains x (omega arith) (omega arith),
)
