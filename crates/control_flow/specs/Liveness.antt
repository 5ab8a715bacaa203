-- What is live: a path reads it before anything on it writes it.
use Rattle.std.specs.Prelude.{◌≡◌, ◌⊎◌, ℕ, zero, suc, ◌<◌, Some}
use Rattle.isa_model.specs.declared.registers.Reg.{Reg}
use Rattle.isa_model.specs.declared.instructions.Insn.{Insn}
use Rattle.isa_model.specs.Code.Instructions.{Program, fetch}
use Rattle.isa_model.specs.MustAccept.Paths.{IsOneOf}
use Rattle.control_flow.specs.Graph.{fall_to, jump_to}
use Rattle.control_flow.specs.Accesses.{read_registers, written_registers}
use Rattle.control_flow.specs.StackUse.{ReadsSlot, WritesSlot, FrameAddressIsTaken}

-- ---- what a call frame keeps values in

-- a register, or 8 bytes of the frame's stack
pub data Home : Type 0 where
  InRegister : Reg → Home
  InSlot : ℕ → Home

-- the instruction reads it. If a frame's address is taken, any instruction may read any stack slot
abbrev pub IsReadBy : Type 0 → Insn → Home → Type 0
IsReadBy taken i (InRegister r) = IsOneOf (read_registers i) r
IsReadBy taken i (InSlot j) = ReadsSlot i j ⊎ ((j < 64) × taken)

-- it writes all of it
abbrev pub IsWrittenBy : Insn → Home → Type 0
IsWrittenBy i (InRegister r) = IsOneOf (written_registers i) r
IsWrittenBy i (InSlot j) = WritesSlot i j

-- the instruction at a slot of the code reads it, or writes all of it
abbrev pub ReadsHome : Program → Home → ℕ → Type 0
ReadsHome p h slot = (i : Insn) × (fetch p slot ≡ Some i) × IsReadBy (FrameAddressIsTaken p) i h

abbrev pub WritesHome : Program → Home → ℕ → Type 0
WritesHome p h slot = (i : Insn) × (fetch p slot ≡ Some i) × IsWrittenBy i h

-- ---- paths of jumps and fall-throughs

-- control goes from a slot to the one after its instruction, or to the target of its jump
abbrev pub GoesTo : Program → ℕ → ℕ → Type 0
GoesTo p slot to = (fall_to p slot ≡ Some to) ⊎ (jump_to p slot ≡ Some to)

-- a path of n edges goes from a slot to one that reads it, and no instruction before that one
-- writes it
abbrev pub IsReadAfter : Program → Home → ℕ → ℕ → Type 0
IsReadAfter p h zero slot = ReadsHome p h slot
IsReadAfter p h (suc n) slot =
    (next : ℕ) × GoesTo p slot next × (¬ WritesHome p h slot) × IsReadAfter p h n next

-- some path from the slot reads it before it writes it
abbrev pub IsHomeLive : Program → Home → ℕ → Type 0
IsHomeLive p h slot = (n : ℕ) × IsReadAfter p h n slot

-- the register is live at a slot of the code
abbrev pub IsLive : Program → Reg → ℕ → Type 0
IsLive p r slot = IsHomeLive p (InRegister r) slot

-- stack slot j of the frame is live there
abbrev pub IsSlotLive : Program → ℕ → ℕ → Type 0
IsSlotLive p j slot = IsHomeLive p (InSlot j) slot
