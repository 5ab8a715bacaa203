use Rattle.std.proofs.Common.{rules}
use Rattle.host.proofs.invalid.is_invalid.Goals as goal

pub returns-in_default : goal.returns-in_default
returns-in_default c = search rules
