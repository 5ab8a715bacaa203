use Rattle.std.proofs.Common.{rules}
use Rattle.commands.proofs.endings.Ending.flushed.Goals as goal

pub returns-in-Ok : goal.returns-in-Ok
returns-in-Ok g c = search rules

pub returns : goal.returns
returns g c = search rules
