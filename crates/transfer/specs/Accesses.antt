-- Loads and stores by what the base points to; `rows` are the map rows.
use Rattle.std.specs.Prelude.{◌≡◌, ℤ, ◌+ℤ◌, List, slice_get, Result, Err}
use Rattle.isa_model.specs.declared.sizes.Size.{Size}
use Rattle.isa_model.specs.declared.sizes.SignedSize.{SignedSize}
use Rattle.isa_model.specs.declared.map_defs.MapDef.{MapDef}
use Rattle.reg_state.specs.declared.kinds.Kind.{Kind}
use Rattle.reg_state.specs.declared.kinds.Kind.TheVariants.{Context, Stack, Packet, MapValue}
use Rattle.stack_state.specs.declared.states.State.{State}
use Rattle.transfer.specs.declared.refusals.Refusal.{Refusal}
use Rattle.transfer.specs.Refusing.{access_refusal}
use Rattle.transfer.specs.ContextLoads.{ContextLoads}
use Rattle.transfer.specs.StackAccesses.{StackLoads, StackLoadsSigned, StackStores}
use Rattle.transfer.specs.Packets.{PacketLoads, PacketLoadsSigned, PacketStores}
use Rattle.transfer.specs.Values.{value_size, ValueLoads, ValueLoadsSigned, ValueStores}

-- ---- loads

abbrev pub LoadsKind : List MapDef → State → Size → Kind → ℤ → Result Kind Refusal → Type 0
LoadsKind rows a size Context by result = ContextLoads size by result
LoadsKind rows a size (Stack frame offset) by result = StackLoads a frame (offset +ℤ by) size result
LoadsKind rows a size (Packet fixed identity least greatest proved) by result =
    PacketLoads size fixed least proved by result
LoadsKind rows a size (MapValue m least greatest) by result =
    ValueLoads size (value_size (slice_get rows m)) least greatest by result
LoadsKind rows a size base by result = result ≡ Err (access_refusal base)

-- with the sign extended
abbrev pub LoadsSigned : List MapDef → State → SignedSize → Kind → ℤ → Result Kind Refusal → Type 0
LoadsSigned rows a size (Stack frame offset) by result =
    StackLoadsSigned a frame (offset +ℤ by) size result
LoadsSigned rows a size (Packet fixed identity least greatest proved) by result =
    PacketLoadsSigned size fixed least proved by result
LoadsSigned rows a size (MapValue m least greatest) by result =
    ValueLoadsSigned size (value_size (slice_get rows m)) least greatest by result
LoadsSigned rows a size base by result = result ≡ Err (access_refusal base)

-- ---- stores

-- a value is stored, which leaves b
abbrev pub StoresKind : List MapDef → State → Size → Kind → ℤ → Kind → State
    → Result (Unit {0}) Refusal → Type 0
StoresKind rows a size (Stack frame offset) by source b result =
    StackStores a frame (offset +ℤ by) size source b result
StoresKind rows a size (Packet fixed identity least greatest proved) by source b result =
    (b ≡ a) × PacketStores size fixed least proved by source result
StoresKind rows a size (MapValue m least greatest) by source b result =
    (b ≡ a) × ValueStores size (value_size (slice_get rows m)) least greatest by source result
StoresKind rows a size base by source b result = (b ≡ a) × (result ≡ Err (access_refusal base))
