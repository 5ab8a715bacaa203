use Rattle.std.proofs.Common.{rules}
use Rattle.checked_vm.proofs.core_state.Core.enter.Goals as goal

pub returns-clause-state : goal.returns-clause-state
returns-clause-state c = search rules
