-- The slots of a call frame, and what the methods of `StackState` do with them.
use Rattle.std.specs.Prelude.{◌≡◌, ◌≢◌, ℕ, ◌+◌, ◌-◌, ◌*◌, ◌/◌, ◌%◌, ◌^◌, ◌<◌, ◌≤◌, ◌==◌, ◌↔◌, List, length, map, slice_set, slice_index_or, Option, Some, None, bit_or, if◌then◌else◌}
use Rattle.std.specs.Int.{bit_at}
use Rattle.isa_model.specs.Code.Limits.{stack_size}
use Rattle.isa_model.specs.declared.sizes.Size.{Size}
use Rattle.isa_model.specs.declared.sizes.Size.TheVariants.{U64}
use Rattle.isa_model.specs.Code.Sizes.{size_bytes}
use Rattle.reg_state.specs.declared.scalars.Scalar.{Scalar}
use Rattle.reg_state.specs.declared.kinds.Kind.{Kind}
use Rattle.reg_state.specs.declared.kinds.Kind.TheVariants.{Unset, Number, MapValue, MapValueOrNull}
use Rattle.reg_state.specs.Scalars.{Has}
use Rattle.reg_state.specs.Arithmetic.{IsPart}
use Rattle.stack_state.specs.declared.slots.StackSlot.{StackSlot}
use Rattle.stack_state.specs.declared.slots.StackSlot.TheVariants.{Written, Spilled}

-- how many slots of 8 bytes a call frame has
abbrev pub frame_slots : ℕ
frame_slots = stack_size / 8

abbrev pub slot_at : List StackSlot → ℕ → StackSlot
slot_at slots k = slice_index_or slots k (Written 0)

-- the kind of the value that was spilled there; Unset where none was
abbrev pub kind_in : StackSlot → Kind
kind_in (Written marks) = Unset
kind_in (Spilled k) = k

-- what is known of the bytes of a call frame
pub record StackSlots : Type 0 where
  pub slots : List StackSlot

-- nothing is known of the slots before one
abbrev pub AreBlankBefore : ℕ → List StackSlot → Type 0
AreBlankBefore end slots = (k : ℕ) → k < end → slot_at slots k ≡ Written 0

-- something may be known only of the slots from one on
pub record AreKnownFrom (from : ℕ) (slots : List StackSlot) : Type 0 where
  pub inside : from ≤ frame_slots
  pub blank : AreBlankBefore from slots
  pub wide : length slots ≡ frame_slots

-- ---- marks

-- all bytes of a spilled number are number bytes; if it may be a pointer, no byte is known to be
-- one
abbrev pub kind_marks : Kind → ℕ
kind_marks (Number numbers) = 255
kind_marks k = 0

-- bit i: byte i of the slot is a written number byte
abbrev pub marks_of : StackSlot → ℕ
marks_of (Written marks) = marks
marks_of (Spilled k) = kind_marks k

-- the marks of the bytes of a slot from one up to another
abbrev pub mask_of : ℕ → ℕ → ℕ
mask_of from end = 2 ^ end - 2 ^ from

-- byte i of the frame is a written number byte
abbrev pub IsNumberByte : List StackSlot → ℕ → Type 0
IsNumberByte slots i = bit_at (marks_of (slot_at slots (i / 8))) (i % 8) ≡ 1

abbrev pub AreMarked : List StackSlot → ℕ → ℕ → Type 0
AreMarked slots from end = (i : ℕ) → from ≤ i → i < end → IsNumberByte slots i

-- n number bytes were written: a value that was spilled there is no longer whole, and of a spilled
-- number the other bytes stay
abbrev pub after_store : List StackSlot → ℕ → ℕ → List StackSlot
after_store slots at n =
    slice_set slots (at / 8)
    (Written (bit_or (marks_of (slot_at slots (at / 8))) (mask_of (at % 8) (at % 8 + n))))

-- ---- numbers

-- every number of a register is one of them
abbrev pub IsAny : Scalar → Type 0
IsAny numbers = (x : ℕ) → x < 2 ^ 64 → Has numbers x

abbrev pub IsAnyNumber : Kind → Type 0
IsAnyNumber (Number numbers) = IsAny numbers
IsAnyNumber k = ⊥

-- every number that the bytes may spell, and no other
abbrev pub AreAll : Size → Scalar → Type 0
AreAll size loaded = (x : ℕ) → (Has loaded x ↔ (x < 2 ^ (8 * size_bytes size)))

-- those that the bytes of a spilled number may spell, from one byte on; all its bytes spell the
-- number itself
abbrev pub ArePart : Scalar → ℕ → Size → Scalar → Type 0
ArePart numbers from U64 loaded = loaded ≡ numbers
ArePart numbers from size loaded = IsPart (8 * from) (8 * size_bytes size) numbers loaded

abbrev pub AreSpilled : Kind → ℕ → Size → Scalar → Type 0
AreSpilled (Number numbers) from size loaded = ArePart numbers from size loaded
AreSpilled k from size loaded = AreAll size loaded

-- the numbers that marked bytes of a slot, from one on, may spell
abbrev pub AreNumbers : StackSlot → ℕ → Size → Scalar → Type 0
AreNumbers (Written marks) from size loaded = AreAll size loaded
AreNumbers (Spilled k) from size loaded = AreSpilled k from size loaded

-- the bytes can be loaded if all of them are marked
abbrev pub IsLoad : List StackSlot → ℕ → Size → Option Scalar → Type 0
IsLoad slots at size None = ¬ AreMarked slots at (at + size_bytes size)
IsLoad slots at size (Some loaded) =
    AreMarked slots at (at + size_bytes size)
    × AreNumbers (slot_at slots (at / 8)) (at % 8) size loaded

-- ---- whole values

-- a number about which nothing is known is eight written bytes
abbrev pub IsNumberSpill : Scalar → StackSlot → Type 0
IsNumberSpill numbers (Written marks) = (marks ≡ 255) × IsAny numbers
IsNumberSpill numbers (Spilled k) = (k ≡ Number numbers) × (¬ IsAny numbers)

-- what a spill of the kind leaves in its slot
abbrev pub IsSpill : Kind → StackSlot → Type 0
IsSpill Unset slot = slot ≡ Written 0
IsSpill (Number numbers) slot = IsNumberSpill numbers slot
IsSpill k slot = slot ≡ Spilled k

-- eight bytes that are all marked are some number
abbrev pub IsWrittenFill : ℕ → Option Kind → Type 0
IsWrittenFill marks None = marks ≢ 255
IsWrittenFill marks (Some k) = (marks ≡ 255) × IsAnyNumber k

abbrev pub spilled_kind : Kind → Option Kind
spilled_kind Unset = None
spilled_kind k = Some k

-- the kind of the value that is read back whole from a slot
abbrev pub IsFill : StackSlot → Option Kind → Type 0
IsFill (Written marks) loaded = IsWrittenFill marks loaded
IsFill (Spilled k) loaded = loaded ≡ spilled_kind k

-- ---- forgotten maps

abbrev pub forgotten_if : ℕ → ℕ → Kind → StackSlot
forgotten_if m index k = if index == m then Written 0 else Spilled k

abbrev pub forgotten_kind : ℕ → Kind → StackSlot
forgotten_kind m (MapValue index least greatest) =
    forgotten_if m index (MapValue index least greatest)
forgotten_kind m (MapValueOrNull index identity) =
    forgotten_if m index (MapValueOrNull index identity)
forgotten_kind m k = Spilled k

-- pointers to values of the map are forgotten
abbrev pub forgotten_slot : ℕ → StackSlot → StackSlot
forgotten_slot m (Written marks) = Written marks
forgotten_slot m (Spilled k) = forgotten_kind m k

abbrev pub forgotten : ℕ → List StackSlot → List StackSlot
forgotten m slots = map (forgotten_slot m) slots
