-- Atomic instructions: what they leave, and why they are refused.
use Rattle.std.specs.Prelude.{◌≡◌, ℕ, ℤ, ◌+ℤ◌, List, slice_get, Option, Some, None, Result, Ok, Err}
use Rattle.isa_model.specs.declared.registers.Reg.{Reg}
use Rattle.isa_model.specs.declared.registers.Reg.TheVariants.{R0}
use Rattle.isa_model.specs.declared.sizes.Size.{Size}
use Rattle.isa_model.specs.declared.map_defs.MapDef.{MapDef}
use Rattle.isa_model.specs.Code.Sizes.{size_bytes}
use Rattle.reg_state.specs.declared.scalars.Scalar.{Scalar}
use Rattle.reg_state.specs.declared.kinds.Kind.{Kind}
use Rattle.reg_state.specs.declared.kinds.Kind.TheVariants.{Number, Context, Stack, Packet, MapValue, MapValueOrNull}
use Rattle.stack_state.specs.declared.states.State.{State}
use Rattle.stack_state.specs.Meaning.{stack_slots_of}
use Rattle.stack_state.specs.Places.{kind_of, with_register}
use Rattle.stack_state.specs.Slots.{IsLoad}
use Rattle.stack_state.specs.FramePlaces.{IsStoredIn}
use Rattle.transfer.specs.declared.refusals.Refusal.{Refusal}
use Rattle.transfer.specs.declared.refusals.Refusal.TheVariants.{PointerOperand, NotMemory, StackPlace, StackBytes, PacketBytes, MapValueBytes, NullNotTested, PacketAtomic}
use Rattle.transfer.specs.StackAccesses.{IsFramePlace, IsNoFramePlace}
use Rattle.transfer.specs.Packets.{AreInPacket, IsOfSize}
use Rattle.transfer.specs.Values.{value_size, AreInValue}

-- ---- call frames

-- the old number goes into a register, if the form writes one
abbrev pub with_old : Option Reg → Scalar → State → State
with_old None old a = a
with_old (Some register) old a = with_register a register (Number old)

-- number bytes are replaced by others
pub record IsSwapped (a : State) (frame at : ℕ) (size : Size) (register : Option Reg)
    (b : State) : Type 0 where
  pub old : Scalar
  pub loaded : IsLoad (stack_slots_of a frame) at size (Some old)
  pub after : State
  pub stored : IsStoredIn a frame at size after
  pub kept : b ≡ with_old register old after

-- through a frame pointer: refused for the place first, and then for its bytes
abbrev pub StackSwaps : State → ℕ → ℤ → Size → Option Reg → State → Result (Unit {0}) Refusal
    → Type 0
StackSwaps a frame z size register b (Ok done) =
    (at : ℕ) × IsFramePlace a frame z size at × IsSwapped a frame at size register b
StackSwaps a frame z size register b (Err StackPlace) = (b ≡ a) × IsNoFramePlace a frame z size
StackSwaps a frame z size register b (Err StackBytes) =
    (at : ℕ) × (b ≡ a) × IsFramePlace a frame z size at
    × IsLoad (stack_slots_of a frame) at size None
StackSwaps a frame z size register b (Err e) = ⊥

-- ---- all places

-- if no atomic instruction is allowed there, the state stays as it was
abbrev pub RefusesAtomic : State → State → Result (Unit {0}) Refusal → Refusal → Type 0
RefusesAtomic a b result e = (b ≡ a) × (result ≡ Err e)

-- the packet allows none; its bytes are tested first
abbrev pub IsPacketRefusal : ℤ → ℤ → ℕ → ℤ → Size → Refusal → Type 0
IsPacketRefusal fixed least proved by size PacketAtomic =
    AreInPacket fixed least proved by (size_bytes size)
IsPacketRefusal fixed least proved by size PacketBytes =
    ¬ AreInPacket fixed least proved by (size_bytes size)
IsPacketRefusal fixed least proved by size e = ⊥

-- in a map's value an unknown number is replaced by another
abbrev pub ValueSwaps : Type 0 → State → Size → Option Reg → State → Result (Unit {0}) Refusal
    → Type 0
ValueSwaps inside a size register b (Ok done) =
    inside × ((old : Scalar) × IsOfSize size old × (b ≡ with_old register old a))
ValueSwaps inside a size register b (Err e) = (¬ inside) × RefusesAtomic a b (Err e) MapValueBytes

-- on numbers, through a base of that kind; `rows` are the map rows
abbrev pub SwapsAt : List MapDef → State → Kind → ℤ → Size → Option Reg → State
    → Result (Unit {0}) Refusal → Type 0
SwapsAt rows a (Stack frame z) by size register b result =
    StackSwaps a frame (z +ℤ by) size register b result
SwapsAt rows a Context by size register b result = RefusesAtomic a b result PacketAtomic
SwapsAt rows a (Packet fixed identity least greatest proved) by size register b result =
    (e : Refusal) × IsPacketRefusal fixed least proved by size e × RefusesAtomic a b result e
SwapsAt rows a (MapValue m least greatest) by size register b result =
    ValueSwaps (AreInValue (value_size (slice_get rows m)) least greatest by (size_bytes size)) a
    size register b result
SwapsAt rows a (MapValueOrNull m identity) by size register b result =
    RefusesAtomic a b result NullNotTested
SwapsAt rows a k by size register b result = RefusesAtomic a b result NotMemory

-- ---- operands

-- the operand is tested first
abbrev pub Swaps : List MapDef → State → Kind → Kind → ℤ → Size → Option Reg → State
    → Result (Unit {0}) Refusal → Type 0
Swaps rows a (Number numbers) base by size register b result =
    SwapsAt rows a base by size register b result
Swaps rows a source base by size register b result = RefusesAtomic a b result PointerOperand

-- and then the number to compare with, which is in r0; r0 gets the old number
abbrev pub ComparesIn : List MapDef → State → Kind → Kind → Kind → ℤ → Size → State
    → Result (Unit {0}) Refusal → Type 0
ComparesIn rows a (Number numbers) source base by size b result =
    Swaps rows a source base by size (Some R0) b result
ComparesIn rows a expected source base by size b result = RefusesAtomic a b result PointerOperand

abbrev pub Compares : List MapDef → State → Kind → Kind → ℤ → Size → State
    → Result (Unit {0}) Refusal → Type 0
Compares rows a source base by size b result =
    ComparesIn rows a (kind_of a R0) source base by size b result
