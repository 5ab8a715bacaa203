use Rattle.std.proofs.Common.{rules}
use Rattle.image.proofs.head.version_of.Goals as goal

pub returns-then-starts_with-2 : goal.returns-then-starts_with-2
returns-then-starts_with-2 c = search rules

pub returns-else-starts_with-2 : goal.returns-else-starts_with-2
returns-else-starts_with-2 c = search rules
