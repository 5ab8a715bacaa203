use Rattle.table_entries.proofs.Common.{rules, map_in}
use Rattle.table_entries.proofs.kinds.map_in.Goals as goal

pub returns-then-from-rows : goal.returns-then-from-rows
unfolding map_in
returns-then-from-rows c = search rules
