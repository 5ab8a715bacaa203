-- A state of which all is kept but its innermost call frame.
use Rattle.stack_state.specs.declared.states.AbstractFrame.{AbstractFrame}
use Rattle.stack_state.specs.declared.states.State.{State}
use Rattle.kept_states.specs.declared.around.Around.{Around}
use Rattle.kept_states.specs.ProvedBytes.{with_proved}

-- the state, with that frame, of whose pointers what is proved besides is known
abbrev pub state_around : Around → AbstractFrame → State
state_around a f = with_proved a.proved (with_proved a.also_proved (record {
  slot = a.slot;
  callers = record { items = a.callers.value.items };
  innermost = f;
}))
