use Rattle.std.proofs.Common.{◌≡◌, length, rules}
use Rattle.checked_vm.proofs.Helpers.{last_registers}
use Rattle.checked_vm.proofs.core_state.Core.answer.Goals as goal

pub returns-clause-state : goal.returns-clause-state
returns-clause-state c = λ packet.
    let long : length c.args.self.now.regs ≡ 11 = search rules in
    rw (last_registers c.args.self.now.regs long)
