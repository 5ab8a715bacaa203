use Rattle.std.proofs.Common.{rules}
use Rattle.image.proofs.head.head_of.Goals as goal

pub returns : goal.returns
returns c = search rules
