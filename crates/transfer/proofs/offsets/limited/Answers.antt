use Rattle.std.proofs.Common.{rules}
use Rattle.transfer.proofs.offsets.limited.Goals as goal

pub returns-then-offset-le-OFFSET_LIMIT : goal.returns-then-offset-le-OFFSET_LIMIT
returns-then-offset-le-OFFSET_LIMIT c = search rules
