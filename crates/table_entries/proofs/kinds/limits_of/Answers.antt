use Rattle.table_entries.proofs.Common.{rules, limits_of}
use Rattle.table_entries.proofs.kinds.limits_of.Goals as goal

pub returns-then-least-greatest : goal.returns-then-least-greatest
unfolding limits_of
returns-then-least-greatest c = search rules
