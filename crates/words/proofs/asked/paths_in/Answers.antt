use Rattle.std.proofs.Common.{rules}
use Rattle.words.proofs.asked.paths_in.Goals as goal

pub returns : goal.returns
returns c = search rules
