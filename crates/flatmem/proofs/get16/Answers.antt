use Rattle.std.proofs.Common.{rules}
use Rattle.flatmem.proofs.get16.Goals as goal

pub window-requires : goal.window-requires
window-requires c = search rules

pub returns : goal.returns
returns c = search rules
