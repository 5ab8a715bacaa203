use Rattle.std.proofs.Common.{rules}
use Rattle.flatmem.proofs.get64.Goals as goal

pub returns : goal.returns
returns c = search rules
