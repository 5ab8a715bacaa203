use Rattle.std.proofs.Common.{rules}
use Rattle.transfer.proofs.exits.return_to_caller.Goals as goal

pub returns-then-points_into : goal.returns-then-points_into
returns-then-points_into c = search rules

pub returns : goal.returns
returns c = search rules
