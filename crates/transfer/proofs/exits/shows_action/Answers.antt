use Rattle.std.proofs.Common.{rules}
use Rattle.transfer.proofs.exits.shows_action.Goals as goal

pub returns-in-One : goal.returns-in-One
returns-in-One c = search rules

pub returns-else-numbers-le-MOST : goal.returns-else-numbers-le-MOST
returns-else-numbers-le-MOST c = search rules
