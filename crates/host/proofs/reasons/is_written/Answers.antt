use Rattle.std.proofs.Common.{rules}
use Rattle.host.proofs.reasons.is_written.Goals as goal

pub returns-in-One-Exit : goal.returns-in-One-Exit
returns-in-One-Exit c = search rules

pub returns-in-Two-Exit : goal.returns-in-Two-Exit
returns-in-Two-Exit c = search rules
