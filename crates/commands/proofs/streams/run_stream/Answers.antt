use Rattle.std.proofs.Common.{rules}
use Rattle.commands.proofs.streams.run_stream.Goals as goal

pub returns : goal.returns
returns g c = search rules
