-- Bytes that are proved, once for all pointers of an identity.
use Rattle.stack_state.specs.declared.states.State.{State}
use Rattle.stack_state.specs.Effects.{proved_kind, map_kinds}
use Rattle.kept_states.specs.declared.proved_bytes.ProvedBytes.{ProvedBytes}

-- the state, where they are known besides of all values that they are about
abbrev pub with_proved : ProvedBytes → State → State
with_proved known s = map_kinds (proved_kind known.identity known.bytes) s
