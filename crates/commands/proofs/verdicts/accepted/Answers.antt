use Rattle.std.proofs.Common.{rules}
use Rattle.commands.proofs.verdicts.accepted.Goals as goal

pub returns : goal.returns
returns g c = search rules
