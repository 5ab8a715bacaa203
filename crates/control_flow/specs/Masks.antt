-- Sets of registers and of stack slots.
use Rattle.std.specs.Prelude.{◌≡◌, ℕ, List, slice_index_or}
use Rattle.std.specs.Int.{bit_at}
use Rattle.isa_model.specs.declared.registers.Reg.{Reg}
use Rattle.isa_model.specs.Code.Registers.{reg_number}
use Rattle.control_flow.specs.declared.masks.RegisterMask.{RegisterMask}
use Rattle.control_flow.specs.declared.slot_masks.SlotMask.{SlotMask}
use Rattle.control_flow.specs.declared.homes.HomeMask.{HomeMask}
use Rattle.control_flow.specs.Liveness.{Home, InRegister, InSlot}

abbrev pub no_registers : RegisterMask
no_registers = record { bits = 0 }

-- the register is one of the set
abbrev pub HasRegister : RegisterMask → Reg → Type 0
HasRegister mask r = bit_at mask.bits (reg_number r) ≡ 1

abbrev pub no_slots : SlotMask
no_slots = record { bits = 0 }

abbrev pub all_slots : SlotMask
all_slots = record { bits = 0xffff_ffff_ffff_ffff }

-- the stack slot is one of the set
abbrev pub HasSlot : SlotMask → ℕ → Type 0
HasSlot mask j = bit_at mask.bits j ≡ 1

abbrev pub no_homes : HomeMask
no_homes = record { registers = no_registers; slots = no_slots }

abbrev pub HasHome : HomeMask → Home → Type 0
HasHome mask (InRegister r) = HasRegister mask.registers r
HasHome mask (InSlot j) = HasSlot mask.slots j

-- the mask of a slot of the code
abbrev pub mask_at : List HomeMask → ℕ → HomeMask
mask_at masks slot = slice_index_or masks slot no_homes

-- what the masks have, the others have at the same slots
abbrev pub AreWithin : List HomeMask → List HomeMask → Type 0
AreWithin masks others =
    (h : Home) (slot : ℕ) → HasHome (mask_at masks slot) h → HasHome (mask_at others slot) h
