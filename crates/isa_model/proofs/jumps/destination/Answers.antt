use Rattle.std.proofs.Common.{rules}
use Rattle.isa_model.proofs.jumps.destination.Goals as goal

pub returns-then-to-lt0 : goal.returns-then-to-lt0
returns-then-to-lt0 c = search rules
