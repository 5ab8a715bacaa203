use Rattle.checked_vm.proofs.Common.{sym, ap, ◌∙◌, Next, act, state_of}
use Rattle.checked_vm.proofs.Acts.{exits_leave}
use Rattle.checked_vm.proofs.core_state.Core.exit.Goals as goal

pub returns-else-depth-eq1-clause-step : goal.returns-else-depth-eq1-clause-step
unfolding act
returns-else-depth-eq1-clause-step c = λ packet p clock same.
    exits_leave p.version (state_of c.args.self.now packet)
    (λ one. c.if-depth-eq1.false (c.depth.ensures.frames ∙ one))
    ∙ ap Next (sym (c.leave.ensures.state packet))
