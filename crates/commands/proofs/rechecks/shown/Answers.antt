use Rattle.std.proofs.Common.{rules}
use Rattle.commands.proofs.rechecks.shown.Goals as goal

pub returns-in-Ok-recheck-clause-shows : goal.returns-in-Ok-recheck-clause-shows
returns-in-Ok-recheck-clause-shows g c = search rules

pub returns-clause-refused : goal.returns-clause-refused
returns-clause-refused g c = search rules

pub returns-clause-known : goal.returns-clause-known
returns-clause-known g c = search rules
