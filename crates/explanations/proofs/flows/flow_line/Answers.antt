use Rattle.std.proofs.Common.{rules}
use Rattle.explanations.proofs.flows.flow_line.Goals as goal

pub returns-in-FallsOff : goal.returns-in-FallsOff
returns-in-FallsOff c = search rules
