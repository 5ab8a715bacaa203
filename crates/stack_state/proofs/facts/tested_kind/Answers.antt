use Rattle.std.proofs.Common.{rules}
use Rattle.stack_state.proofs.facts.tested_kind.Goals as goal

pub returns-then-null : goal.returns-then-null
returns-then-null c = search rules

pub returns-else-null : goal.returns-else-null
returns-else-null c = search rules
