use Rattle.std.proofs.Common.{rules}
use Rattle.checked_vm.proofs.steps.is_answer.Goals as goal

pub returns-in-Two : goal.returns-in-Two
returns-in-Two c = search rules
