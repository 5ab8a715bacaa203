use Rattle.std.proofs.Common.{rules}
use Rattle.word_machine.proofs.memory.field.Goals as goal

pub returns-then-address : goal.returns-then-address
returns-then-address c = search rules
