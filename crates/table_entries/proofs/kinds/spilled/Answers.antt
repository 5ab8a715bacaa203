use Rattle.std.proofs.Common.{rules}
use Rattle.table_entries.proofs.kinds.spilled.Goals as goal

pub returns-in-Some : goal.returns-in-Some
returns-in-Some c = search rules
