-- Call frames as what is known of them, part by part.
use Rattle.std.specs.Prelude.{◌≡◌, ℕ, ◌+◌, ◌<◌, ◌==◌, List, [], ◌∷◌, ◌++◌, length, replicate, slice_set, Option, Some, None, option_to_list, if◌then◌else◌}
use Rattle.reg_state.specs.declared.kinds.Kind.{Kind}
use Rattle.reg_state.specs.declared.kinds.Kind.TheVariants.{Unset}
use Rattle.stack_state.specs.declared.slots.StackSlot.{StackSlot}
use Rattle.stack_state.specs.declared.slots.StackSlot.TheVariants.{Written, Spilled}
use Rattle.stack_state.specs.declared.states.AbstractFrame.{AbstractFrame}
use Rattle.stack_state.specs.Meaning.{kind_at}
use Rattle.stack_state.specs.Places.{with_kind}
use Rattle.stack_state.specs.Slots.{slot_at, frame_slots}
use Rattle.control_flow.specs.declared.slot_masks.SlotMask.{SlotMask}
use Rattle.control_flow.specs.Masks.{HasSlot}
use Rattle.state_index.specs.declared.parts.Part.{Part}
use Rattle.state_index.specs.declared.parts.Part.TheVariants.{InRegister, InSlot}

-- ---- the parts of a call frame

-- nothing is kept of a register that is unset
abbrev pub register_part : ℕ → Kind → Option Part
register_part n Unset = None
register_part n k = Some (InRegister n k)

-- nor of a stack slot about which nothing is known
abbrev pub slot_part : ℕ → StackSlot → Option Part
slot_part n (Written marks) = if marks == 0 then None else Some (InSlot n (Written marks))
slot_part n (Spilled k) = Some (InSlot n (Spilled k))

-- of registers from the nth on
abbrev pub register_parts : ℕ → List Kind → List Part
register_parts n [] = []
register_parts n (k ∷ ks) = option_to_list (register_part n k) ++ register_parts (n + 1) ks

-- of stack slots from the nth on
abbrev pub slot_parts : ℕ → List StackSlot → List Part
slot_parts n [] = []
slot_parts n (t ∷ ts) = option_to_list (slot_part n t) ++ slot_parts (n + 1) ts

unfoldable pub parts_of : AbstractFrame → List Part
parts_of f = register_parts 0 f.registers ++ slot_parts 0 f.stack.slots

-- these are the parts of a whole frame
pub record AreParts (parts : List Part) (f : AbstractFrame) : Type 0 where
  pub all : parts ≡ parts_of f
  pub ten : length f.registers ≡ 10
  pub wide : length f.stack.slots ≡ frame_slots

-- nothing is known of the other stack slots
abbrev pub AreBlankBeside : SlotMask → List StackSlot → Type 0
AreBlankBeside kept slots = (j : ℕ) → j < 64 → (¬ HasSlot kept j) → slot_at slots j ≡ Written 0

-- the frame has this part
abbrev pub IsPartOf : AbstractFrame → Part → Type 0
IsPartOf f (InRegister n k) = kind_at f.registers n ≡ k
IsPartOf f (InSlot n t) = slot_at f.stack.slots n ≡ t

-- ---- a frame from parts

-- a frame about which nothing is known, which returns to the slot of the code
unfoldable pub unset_frame : ℕ → AbstractFrame
unset_frame slot =
    record {
      return_slot = slot;
      registers = replicate 10 Unset;
      stack = record { slots = replicate frame_slots (Written 0) };
    }

abbrev pub with_slot : AbstractFrame → ℕ → StackSlot → AbstractFrame
with_slot f n t = record f { stack = record { slots = slice_set f.stack.slots n t } }

-- the frame with a part written where it belongs
abbrev pub with_part : AbstractFrame → Part → AbstractFrame
with_part f (InRegister n k) = with_kind f n k
with_part f (InSlot n t) = with_slot f n t

unfoldable pub all_written : AbstractFrame → List Part → AbstractFrame
all_written f [] = f
all_written f (p ∷ ps) = all_written (with_part f p) ps
