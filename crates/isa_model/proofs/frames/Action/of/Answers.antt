use Rattle.std.proofs.Common.{rules}
use Rattle.isa_model.proofs.frames.Action.of.Goals as goal

pub returns-in_default : goal.returns-in_default
returns-in_default c = search rules
