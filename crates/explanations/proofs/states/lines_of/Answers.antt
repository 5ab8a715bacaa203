use Rattle.std.proofs.Common.{rules}
use Rattle.explanations.proofs.states.lines_of.Goals as goal

pub returns : goal.returns
returns c = search rules
