use Rattle.std.proofs.Common.{rules}
use Rattle.transfer.proofs.exits.call.Goals as goal

pub returns-then-is_full : goal.returns-then-is_full
returns-then-is_full c = search rules
