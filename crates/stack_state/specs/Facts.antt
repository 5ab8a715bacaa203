-- Kinds after a fact becomes known that is shared by copies in all call frames.
use Rattle.std.specs.Prelude.{Bool, true, false}
use Rattle.reg_state.specs.declared.kinds.Kind.{Kind}
use Rattle.reg_state.specs.declared.kinds.Kind.TheVariants.{Packet, MapValueOrNull, Stack}
use Rattle.stack_state.specs.declared.facts.Fact.{Fact}
use Rattle.stack_state.specs.declared.facts.Fact.TheVariants.{Proved, Tested, Ended}
use Rattle.stack_state.specs.Effects.{proved_kind, tested_kind}
use Rattle.stack_state.specs.Calls.{without_frame}

abbrev pub learned : Fact → Kind → Kind
learned (Proved identity bytes) = proved_kind identity bytes
learned (Tested identity null zero) = tested_kind identity null zero
learned (Ended frame) = without_frame frame

-- no fact is about it
abbrev pub is_plain : Kind → Bool
is_plain (Packet fixed identity least greatest proved) = false
is_plain (MapValueOrNull m identity) = false
is_plain (Stack frame offset) = false
is_plain k = true
