use Rattle.std.proofs.Common.{rules}
use Rattle.commands.proofs.reading.read_all.Goals as goal

pub returns : goal.returns
returns g c = search rules
