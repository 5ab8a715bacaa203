-- Call frames of which a state knows some places.
use Rattle.std.specs.Prelude.{ℕ, ◌+◌, ◌==◌, List, [], ◌∷◌, ◌++◌, Bool, true, false}
use Rattle.std.specs.Int.{bit_at}
use Rattle.reg_state.specs.declared.kinds.Kind.{Kind}
use Rattle.stack_state.specs.declared.slots.StackSlot.{StackSlot}
use Rattle.stack_state.specs.declared.slots.StackSlot.TheVariants.{Written}
use Rattle.stack_state.specs.declared.states.AbstractFrame.{AbstractFrame}
use Rattle.state_index.specs.declared.parts.Part.{Part}
use Rattle.state_index.specs.declared.parts.Part.TheVariants.{InRegister, InSlot}
use Rattle.state_index.specs.Parts.{unset_frame, all_written}
use Rattle.kept_states.specs.declared.held_places.HeldPlaces.{HeldPlaces}

-- what is known of a place: any number, or what the frame knows, or nothing
abbrev pub held_part : Bool → Bool → Part → Part → List Part
held_part true is_held any part = any ∷ []
held_part false true any part = part ∷ []
held_part false false any part = []

-- the same of registers, from the nth on
unfoldable pub held_registers : HeldPlaces → Kind → ℕ → List Kind → List Part
held_registers h any n [] = []
held_registers h any n (k ∷ ks) =
    held_part (bit_at h.any_registers n == 1) (bit_at h.registers n == 1) (InRegister n any)
    (InRegister n k) ++ held_registers h any (n + 1) ks

-- and of stack slots; eight bytes of any number are written ones
unfoldable pub held_slots : HeldPlaces → ℕ → List StackSlot → List Part
held_slots h n [] = []
held_slots h n (t ∷ ts) =
    held_part (bit_at h.any_slots n == 1) (bit_at h.slots n == 1) (InSlot n (Written 255))
    (InSlot n t) ++ held_slots h (n + 1) ts

-- the frame that returns to a slot of the code, of which that is known
unfoldable pub seen : HeldPlaces → ℕ → Kind → AbstractFrame → AbstractFrame
seen h slot any f =
    all_written (all_written (unset_frame slot) (held_registers h any 0 f.registers))
    (held_slots h 0 f.stack.slots)
