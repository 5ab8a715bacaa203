-- A helper's answer in an abstract state.
use Rattle.reg_state.specs.declared.kinds.Kind.{Kind}
use Rattle.stack_state.specs.declared.states.State.{State}
use Rattle.stack_state.specs.Calls.{resumed_of}

-- r0 holds the answer, r1 to r5 are unset, and r6 to r9 are kept
abbrev pub with_answer : State → Kind → State
with_answer a answer = record a { innermost = resumed_of a.innermost answer }
