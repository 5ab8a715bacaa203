use Rattle.std.proofs.Common.{rules}
use Rattle.assembler.proofs.map_tests.objection_to_value.Goals as goal

pub returns-in_default : goal.returns-in_default
returns-in_default c = search rules
