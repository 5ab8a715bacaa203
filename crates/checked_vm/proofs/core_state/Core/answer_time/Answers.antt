use Rattle.checked_vm.proofs.core_state.Core.answer_time.Goals as goal

pub returns-clause-state : goal.returns-clause-state
returns-clause-state c = λ packet clock time. rw time (c.answer.ensures.state packet)
