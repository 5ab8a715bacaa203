-- Bytes of a number that are written into a slot: what is known of the slot after it.
use Rattle.std.specs.Prelude.{◌≡◌, ◌≢◌, ◌⊎◌, ℕ, ◌+◌, ◌*◌, ◌/◌, ◌%◌, ◌^◌, ◌<◌, List, map, slice_set, All, bit_or}
use Rattle.isa_model.specs.declared.sizes.Size.{Size}
use Rattle.isa_model.specs.declared.values.Cell.{Cell}
use Rattle.isa_model.specs.declared.values.Cell.TheVariants.{Byte}
use Rattle.isa_model.specs.Code.Sizes.{size_bytes}
use Rattle.isa_model.specs.Code.Numbers.{bytes_of}
use Rattle.isa_model.specs.Machine.MachineStates.{IsCell}
use Rattle.reg_state.specs.declared.scalars.Scalar.{Scalar}
use Rattle.reg_state.specs.declared.kinds.Kind.{Kind}
use Rattle.reg_state.specs.declared.kinds.Kind.TheVariants.{Number}
use Rattle.reg_state.specs.Scalars.{Has}
use Rattle.reg_state.specs.Splices as S
use Rattle.reg_state.specs.Kinds.{Assigned}
use Rattle.stack_state.specs.declared.slots.StackSlot.{StackSlot}
use Rattle.stack_state.specs.declared.slots.StackSlot.TheVariants.{Written, Spilled}
use Rattle.stack_state.specs.declared.states.State.{State}
use Rattle.stack_state.specs.Meaning.{stack_slots_of}
use Rattle.stack_state.specs.Slots.{slot_at, marks_of, mask_of, IsAny, IsSpill}
use Rattle.stack_state.specs.StackMeaning.{cells_with, StackMeans}
use Rattle.stack_state.specs.Effects.{with_frame_slots}

-- the numbers that the eight bytes of a slot may spell
abbrev pub AreKindWhole : Kind → Scalar → Type 0
AreKindWhole (Number numbers) spelled = spelled ≡ numbers
AreKindWhole k spelled = IsAny spelled

abbrev pub AreWhole : StackSlot → Scalar → Type 0
AreWhole (Written marks) spelled = IsAny spelled
AreWhole (Spilled k) spelled = AreKindWhole k spelled

-- the marks of a slot after bytes from one on are written
abbrev pub marks_after : StackSlot → ℕ → Size → ℕ
marks_after s from size = bit_or (marks_of s) (mask_of from (from + size_bytes size))

-- the slot's number with other bytes
pub record IsSplicedSlot (s : StackSlot) (from : ℕ) (size : Size) (numbers : Scalar) (t : StackSlot)
    : Type 0 where
  pub old : Scalar
  pub new : Scalar
  pub whole : AreWhole s old
  pub spliced : S.IsSpliced (8 * from) (8 * size_bytes size) old numbers new
  pub left : IsSpill (Number new) t

-- each number that the bytes may spell is one of the numbers
abbrev pub HaveAll : Size → Scalar → Type 0
HaveAll size numbers = (x : ℕ) → x < 2 ^ (8 * size_bytes size) → Has numbers x

-- nothing is known of the slot's bytes but which are written, nor of the bytes that are written
-- into it
abbrev pub IsBlank : StackSlot → Size → Scalar → Type 0
IsBlank (Written marks) size numbers = HaveAll size numbers
IsBlank (Spilled k) size numbers = ⊥

-- bytes of a number are written. If all eight bytes of the slot are number bytes after it, what is
-- known of their number is kept, if anything is; else only which bytes are written
pub record IsSlotStored (s : StackSlot) (from : ℕ) (size : Size) (numbers : Scalar) (t : StackSlot)
    : Type 0 where
  pub whole : marks_after s from size ≡ 255 → IsSplicedSlot s from size numbers t
      ⊎ (IsBlank s size numbers × (t ≡ Written 255))
  pub parts : marks_after s from size ≢ 255 → t ≡ Written (marks_after s from size)

-- bytes of one of the numbers, stored from a place on into the cells that the slots mean
unfoldable pub StoresNumber : List StackSlot → ℕ → Size → Scalar → List StackSlot → Type 0
StoresNumber old at size numbers new =
    (e : Assigned) (count next : ℕ) (cells : List Cell) (n : ℕ) → All (IsCell count next) cells
    → Has numbers n → StackMeans e old cells
    → StackMeans e new (cells_with cells at (map Byte (bytes_of size n)))

-- bytes of one of the numbers are written in the jth call frame
pub record IsNumberStoredIn (a : State) (j at : ℕ) (size : Size) (numbers : Scalar) (b : State)
    : Type 0 where
  pub slot : StackSlot
  pub stored : IsSlotStored (slot_at (stack_slots_of a j) (at / 8)) (at % 8) size numbers slot
  pub left : b ≡ with_frame_slots a j (slice_set (stack_slots_of a j) (at / 8) slot)
  pub meant : StoresNumber (stack_slots_of a j) at size numbers
      (slice_set (stack_slots_of a j) (at / 8) slot)
