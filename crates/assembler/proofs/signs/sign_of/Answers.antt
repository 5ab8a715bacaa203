use Rattle.std.proofs.Common.{rules}
use Rattle.assembler.proofs.signs.sign_of.Goals as goal

pub returns-else-b-eq62 : goal.returns-else-b-eq62
returns-else-b-eq62 c = search rules
