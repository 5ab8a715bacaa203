use Rattle.std.proofs.Common.{rules}
use Rattle.table_entries.proofs.growing.Growing.is_whole.Goals as goal

pub returns-then-len-self : goal.returns-then-len-self
returns-then-len-self c = search rules

pub returns-else-len-self : goal.returns-else-len-self
returns-else-len-self c = search rules
