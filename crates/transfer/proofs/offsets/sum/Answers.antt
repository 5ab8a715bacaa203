use Rattle.std.proofs.Common.{rules}
use Rattle.transfer.proofs.offsets.sum.Goals as goal

pub returns : goal.returns
returns c = search rules
