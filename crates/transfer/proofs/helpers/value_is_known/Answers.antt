use Rattle.std.proofs.Common.{rules}
use Rattle.transfer.proofs.helpers.value_is_known.Goals as goal

pub returns : goal.returns
returns c = search rules
