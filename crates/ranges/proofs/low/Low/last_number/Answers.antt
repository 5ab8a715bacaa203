use Rattle.std.proofs.Common.{rules}
use Rattle.ranges.proofs.low.Low.last_number.Goals as goal

pub returns-clause-last : goal.returns-clause-last
returns-clause-last c = search rules
