use Rattle.std.proofs.Common.{rules}
use Rattle.transfer.proofs.exits.exit_result.Goals as goal

pub returns-else-shows_action : goal.returns-else-shows_action
returns-else-shows_action c = search rules
