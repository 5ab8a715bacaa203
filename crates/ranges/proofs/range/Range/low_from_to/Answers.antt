use Rattle.std.proofs.Common.{rules}
use Rattle.ranges.proofs.range.Range.low_from_to.Goals as goal

pub returns-clause-common : goal.returns-clause-common
returns-clause-common c = search rules
