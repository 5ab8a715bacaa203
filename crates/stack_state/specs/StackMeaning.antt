-- What the slots of a call frame mean: cells; and how the methods of `StackState` change that. The
-- contracts cite the definitions below; StackLaws and FrameLaws have the laws.
use Rattle.std.specs.Prelude.{◌≡◌, ◌≢◌, ℕ, ◌+◌, ◌*◌, ◌<◌, true, List, [], map, take, drop, length, slice_index_or, All, Option, Ok, IfSome}
use Rattle.std.specs.Int.{bit_at}
use Rattle.std.specs.List.{splice, list_all}
use Rattle.isa_model.specs.Code.Limits.{stack_size}
use Rattle.isa_model.specs.declared.sizes.Size.{Size}
use Rattle.isa_model.specs.declared.sizes.Size.TheVariants.{U64}
use Rattle.isa_model.specs.declared.values.Value.{Value}
use Rattle.isa_model.specs.declared.values.Value.TheVariants.{Unset, Num, Ptr}
use Rattle.isa_model.specs.declared.values.Cell.{Cell}
use Rattle.isa_model.specs.declared.values.Cell.TheVariants.{Unwritten, Byte}
use Rattle.isa_model.specs.Code.Sizes.{size_bytes}
use Rattle.isa_model.specs.Code.Numbers.{bytes_of}
use Rattle.isa_model.specs.Machine.States.{Content}
use Rattle.isa_model.specs.Machine.Memory.{is_byte, number_of, number_in, pieces, value_in}
use Rattle.isa_model.specs.Machine.MachineStates.{IsCell}
use Rattle.reg_state.specs.declared.scalars.Scalar.{Scalar}
use Rattle.reg_state.specs.declared.kinds.Kind.{Kind}
use Rattle.reg_state.specs.Scalars.{Has}
use Rattle.reg_state.specs.Kinds.{Assigned, Allows, HasLiveValue}
use Rattle.stack_state.specs.declared.slots.StackSlot.{StackSlot}
use Rattle.stack_state.specs.declared.slots.StackSlot.TheVariants.{Written, Spilled}
use Rattle.stack_state.specs.Slots.{slot_at, frame_slots}

-- ---- cells

-- n of the cells
abbrev pub part_of : {X : Type 0} → List X → ℕ → ℕ → List X
part_of cells at n = take n (drop at cells)

-- the eight cells of a slot
abbrev pub chunk_of : {X : Type 0} → ℕ → List X → List X
chunk_of k cells = part_of cells (8 * k) 8

-- the cells with new ones written from an index on
abbrev pub cells_with : {X : Type 0} → List X → ℕ → List X → List X
cells_with cells at new = splice cells at (at + length new) new

-- the eight cells that an 8-byte store of the value writes; an unset one cannot be stored
abbrev pub stored_cells : Value → List Cell
stored_cells Unset = []
stored_cells (Num n) = map Byte (bytes_of U64 n)
stored_cells (Ptr r z) = pieces r z

-- ---- what slots mean

-- each marked cell is a number byte
abbrev pub Marked : ℕ → List Cell → Type 0
Marked marks cs =
    (i : ℕ) → i < 8 → bit_at marks i ≡ 1 → is_byte (slice_index_or cs i Unwritten) ≡ true

abbrev pub SlotMeans : Assigned → StackSlot → List Cell → Type 0
SlotMeans e (Written marks) cs = Marked marks cs
SlotMeans e (Spilled k) cs = (v : Value) × Allows e k v × (cs ≡ stored_cells v)

-- under the assignment, the slots mean the cells
pub record StackMeans (e : Assigned) (slots : List StackSlot) (cells : List Cell) : Type 0 where
  pub size : length cells ≡ stack_size
  pub each : (k : ℕ) → k < frame_slots → SlotMeans e (slot_at slots k) (chunk_of k cells)

-- ---- what the methods keep

-- the bytes of any number, stored at a place
unfoldable pub StoresBytes : List StackSlot → ℕ → Size → List StackSlot → Type 0
StoresBytes old at size new = (e : Assigned) (cells : List Cell) (n : ℕ) → StackMeans e old cells
    → StackMeans e new (cells_with cells at (map Byte (bytes_of size n)))

-- any value that the kind allows, stored into a slot
unfoldable pub Spills : List StackSlot → ℕ → Kind → List StackSlot → Type 0
Spills old k kind new =
    (e : Assigned) (cells : List Cell) (v : Value) → v ≢ Unset → Allows e kind v
    → StackMeans e old cells
    → StackMeans e new (cells_with cells (8 * k) (stored_cells v))

-- the number that a load returns is one of these
unfoldable pub LoadsNumber : List StackSlot → ℕ → Size → Option Scalar → Type 0
LoadsNumber slots at size loaded =
    IfSome loaded (λ numbers. (e : Assigned) (count next : ℕ) (cells : List Cell)
    → All (IsCell count next) cells → StackMeans e slots cells
    → (n : ℕ) × (number_in (part_of cells at (size_bytes size)) ≡ Ok n) × Has numbers n)

-- the value that a load of a whole slot returns is one that the kind allows
unfoldable pub LoadsSlot : List StackSlot → ℕ → Option Kind → Type 0
LoadsSlot slots k loaded =
    IfSome loaded (λ kind. (e : Assigned) (count next : ℕ) (cells : List Cell)
    → All (IsCell count next) cells → StackMeans e slots cells
    → (v : Value) × (value_in (chunk_of k cells) ≡ Ok v) × Allows e kind v)

-- the cells are number bytes, and a load of them returns their number
unfoldable pub AreNumberBytes : List StackSlot → ℕ → ℕ → Type 0
AreNumberBytes slots from n = (e : Assigned) (cells : List Cell) → StackMeans e slots cells
    → (list_all is_byte (part_of cells from n) ≡ true)
    × (number_in (part_of cells from n) ≡ Ok (number_of (part_of cells from n)))

-- the live values of every other map stay live
abbrev pub KeepsOtherMaps : ℕ → List Content → List Content → Type 0
KeepsOtherMaps m before after = (j n : ℕ) → j ≢ m → HasLiveValue before j n → HasLiveValue after j n

abbrev pub with_maps : Assigned → List Content → Assigned
with_maps e maps = record e { maps = maps }

-- whatever happens to the values of the map
unfoldable pub ForgetsMap : ℕ → List StackSlot → List StackSlot → Type 0
ForgetsMap m old new =
    (e : Assigned) (maps : List Content) (cells : List Cell) → KeepsOtherMaps m e.maps maps
    → StackMeans e old cells → StackMeans (with_maps e maps) new cells
