use Rattle.std.proofs.Common.{rules}
use Rattle.commands.proofs.verdicts.bound_line.Goals as goal

pub returns : goal.returns
returns c = search rules
