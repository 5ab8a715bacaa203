-- What instructions do with the stack of their call frame: through r10 as the base of loads and
-- stores, and with r10 itself.
use Rattle.std.specs.Prelude.{◌≡◌, ℕ, ◌+◌, ◌*◌, ◌<◌, ◌≤◌, pos, ◌-ℤ◌, Some}
use Rattle.isa_model.specs.declared.sizes.Size.TheVariants.{U64}
use Rattle.isa_model.specs.declared.registers.Reg.TheVariants.{R10}
use Rattle.isa_model.specs.declared.instructions.Place.{Place}
use Rattle.isa_model.specs.declared.instructions.Insn.{Insn}
use Rattle.isa_model.specs.declared.instructions.Insn.TheVariants.{Load, LoadSx, Store, StoreConstant}
use Rattle.isa_model.specs.Code.Limits.{stack_size}
use Rattle.isa_model.specs.Code.Instructions.{Program, fetch}
use Rattle.isa_model.specs.MustAccept.Paths.{IsOneOf}
use Rattle.isa_model.specs.MustAccept.Determined.{stack_slot_place}
use Rattle.control_flow.specs.Accesses.{read_registers}

-- ---- stack slots of 8 bytes, counted from the lowest address on

-- the place has the base r10, and is byte n of the frame
abbrev pub IsByte : Place → ℕ → Type 0
IsByte place n = (n < stack_size) × (place.base ≡ R10) × (place.offset ≡ pos n -ℤ pos stack_size)

-- it is one of stack slot j
abbrev pub IsWithinSlot : Place → ℕ → Type 0
IsWithinSlot place j = (n : ℕ) × IsByte place n × (8 * j ≤ n) × (n < 8 * j + 8)

-- it is the first one of stack slot j
abbrev pub IsWholeSlot : Place → ℕ → Type 0
IsWholeSlot place j = (j < 64) × (place ≡ stack_slot_place j)

-- the instruction reads bytes of the stack slot
abbrev pub ReadsSlot : Insn → ℕ → Type 0
ReadsSlot (Load size d place) j = IsWithinSlot place j
ReadsSlot (LoadSx size d place) j = IsWithinSlot place j
ReadsSlot i j = ⊥

-- it writes all of them
abbrev pub WritesSlot : Insn → ℕ → Type 0
WritesSlot (Store U64 place r) j = IsWholeSlot place j
WritesSlot (StoreConstant U64 place k) j = IsWholeSlot place j
WritesSlot i j = ⊥

-- ---- r10 itself

-- the instruction uses r10 other than as the base of a load or a store, so another register may
-- point into the frame then
abbrev pub TakesFrameAddress : Insn → Type 0
TakesFrameAddress (Load size d place) = ⊥
TakesFrameAddress (LoadSx size d place) = ⊥
TakesFrameAddress (StoreConstant size place k) = ⊥
TakesFrameAddress (Store size place r) = r ≡ R10
TakesFrameAddress i = IsOneOf (read_registers i) R10

abbrev pub TakesFrameAddressAt : Program → ℕ → Type 0
TakesFrameAddressAt p slot = (i : Insn) × (fetch p slot ≡ Some i) × TakesFrameAddress i

abbrev pub FrameAddressIsTaken : Program → Type 0
FrameAddressIsTaken p = (slot : ℕ) × TakesFrameAddressAt p slot
