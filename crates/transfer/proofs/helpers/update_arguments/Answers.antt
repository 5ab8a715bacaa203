use Rattle.std.proofs.Common.{rules}
use Rattle.transfer.proofs.helpers.update_arguments.Goals as goal

pub returns-then-not-points_to_bytes : goal.returns-then-not-points_to_bytes
returns-then-not-points_to_bytes c = search rules
