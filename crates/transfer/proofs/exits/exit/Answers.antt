use Rattle.std.proofs.Common.{rules}
use Rattle.transfer.proofs.exits.exit.Goals as goal

pub returns-then-is_empty : goal.returns-then-is_empty
returns-then-is_empty c = search rules
