use Rattle.std.proofs.Common.{arith}
use Rattle.state_cover.proofs.slots_cover.Goals as goal

pub returns-clause-yes : goal.returns-clause-yes
returns-clause-yes c = λ _ k below. c.loop-index.invariant k (omega arith)
