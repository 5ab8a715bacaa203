-- What kinds mean: the values that a kind allows.
-- Linux, Documentation/bpf/verifier.rst (register types, packet pointers, null tests).
use Rattle.std.specs.Prelude.{◌≡◌, ℕ, ◌<◌, ℤ, pos, ◌+ℤ◌, ◌≤ℤ◌, List, [], slice_get, slice_index_or, Contains, Option, Some, None}
use Rattle.isa_model.specs.declared.values.Region.TheVariants as region
use Rattle.isa_model.specs.declared.values.Value.{Value}
use Rattle.isa_model.specs.declared.values.Value.TheVariants.{Num, Ptr}
use Rattle.isa_model.specs.Machine.States.{Content}
use Rattle.isa_model.specs.Machine.MachineStates.{value_serials}
use Rattle.reg_state.specs.declared.kinds.Kind.{Kind}
use Rattle.reg_state.specs.declared.kinds.Kind.TheVariants.{Unset, Number, Context, Stack, Packet, PacketEnd, Map, MapValue, MapValueOrNull}
use Rattle.reg_state.specs.Scalars.{Has}

-- the number or the serial of each identity of an abstract state, and what else its kinds refer to
pub record Assigned : Type 0 where
  -- of each packet identity, the variable part of its pointers
  pub offset : ℕ → ℤ
  -- of each null identity, the serial of a live map value, or null
  pub map_value : ℕ → Option ℕ
  pub packet_length : ℕ
  -- the serials of the call frames, the outermost first
  pub frames : List ℕ
  pub maps : List Content

-- a map value is live while its serial is in the content of its map
abbrev pub HasLiveValue : List Content → ℕ → ℕ → Type 0
HasLiveValue maps m n = Contains (value_serials (slice_index_or maps m [])) n

-- `proved` bytes after the variable part are in the packet
abbrev pub IsProved : Assigned → ℕ → ℕ → Type 0
IsProved e identity proved = 0 < proved → (e.offset identity +ℤ pos proved) ≤ℤ pos e.packet_length

-- a packet pointer: the fixed part and the variable one, which is within the limits
pub record AllowsPacket (e : Assigned) (fixed : ℤ) (identity : ℕ) (least greatest : ℤ) (proved : ℕ)
    (v : Value) : Type 0 where
  pub points : v ≡ Ptr region.Packet (fixed +ℤ e.offset identity)
  pub from : least ≤ℤ e.offset identity
  pub to : e.offset identity ≤ℤ greatest
  pub inside : IsProved e identity proved

-- a pointer to a live map value, within the limits
pub record AllowsMapValue (e : Assigned) (m : ℕ) (least greatest : ℤ) (v : Value) : Type 0 where
  pub serial : ℕ
  pub offset : ℤ
  pub points : v ≡ Ptr (region.MapValue m serial) offset
  pub from : least ≤ℤ offset
  pub to : offset ≤ℤ greatest
  pub live : HasLiveValue e.maps m serial

-- the number 0, or a pointer to the beginning of a live map value
abbrev pub AllowsOrNull : Assigned → ℕ → Option ℕ → Value → Type 0
AllowsOrNull e m None v = v ≡ Num 0
AllowsOrNull e m (Some n) v = (v ≡ Ptr (region.MapValue m n) (pos 0)) × HasLiveValue e.maps m n

-- under the assignment, the kind allows the value
abbrev pub Allows : Assigned → Kind → Value → Type 0
Allows e Unset v = Unit {0}
Allows e (Number numbers) v = (x : ℕ) × (v ≡ Num x) × Has numbers x
Allows e Context v = v ≡ Ptr region.Context (pos 0)
Allows e (Stack frame offset) v =
    (n : ℕ) × (slice_get e.frames frame ≡ Some n) × (v ≡ Ptr (region.CallFrame n) offset)
Allows e (Packet fixed identity least greatest proved) v =
    AllowsPacket e fixed identity least greatest proved v
Allows e PacketEnd v = v ≡ Ptr region.PacketEnd (pos 0)
Allows e (Map m) v = v ≡ Ptr (region.Map m) (pos 0)
Allows e (MapValue m least greatest) v = AllowsMapValue e m least greatest v
Allows e (MapValueOrNull m identity) v = AllowsOrNull e m (e.map_value identity) v
