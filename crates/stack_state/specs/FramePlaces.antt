-- Places in a call frame, and what is written there in any live frame of a state.
use Rattle.std.specs.Prelude.{◌≡◌, ℕ, ◌+◌, ◌%◌, ℤ, pos, ◌+ℤ◌, ◌≤◌, slice_set, Option, Some, None}
use Rattle.isa_model.specs.Code.Limits.{stack_size}
use Rattle.isa_model.specs.declared.sizes.Size.{Size}
use Rattle.isa_model.specs.Code.Sizes.{size_bytes}
use Rattle.reg_state.specs.declared.kinds.Kind.{Kind}
use Rattle.stack_state.specs.declared.slots.StackSlot.{StackSlot}
use Rattle.stack_state.specs.declared.states.State.{State}
use Rattle.stack_state.specs.Meaning.{stack_slots_of}
use Rattle.stack_state.specs.Slots.{after_store, IsSpill}
use Rattle.stack_state.specs.StackMeaning.{StoresBytes, Spills}
use Rattle.stack_state.specs.Effects.{with_frame_slots}

-- n bytes of a frame from an offset on, counted from its start; `None`: they are not all in it
abbrev pub FindsBytes : ℤ → ℕ → Option ℕ → Type 0
FindsBytes z n (Some at) = (z ≡ pos at) × (at + n ≤ stack_size)
FindsBytes z n None = (at : ℕ) → z ≡ pos at → ¬ (at + n ≤ stack_size)

-- an offset from a frame's end is that of byte `at`: the bytes of the size are all in the frame,
-- and begin at a multiple of the size
pub record IsPlace (z : ℤ) (size : Size) (at : ℕ) : Type 0 where
  pub from_start : z +ℤ pos stack_size ≡ pos at
  pub inside : at + size_bytes size ≤ stack_size
  pub aligned : at % size_bytes size ≡ 0

abbrev pub FindsPlace : ℤ → Size → Option ℕ → Type 0
FindsPlace z size (Some at) = IsPlace z size at
FindsPlace z size None = (at : ℕ) → ¬ IsPlace z size at

-- bytes of a number are written in the jth frame
pub record IsStoredIn (a : State) (j at : ℕ) (size : Size) (b : State) : Type 0 where
  pub left : b ≡ with_frame_slots a j (after_store (stack_slots_of a j) at (size_bytes size))
  pub meant : StoresBytes (stack_slots_of a j) at size
      (after_store (stack_slots_of a j) at (size_bytes size))

-- a value of the kind is written into the whole slot k of the jth frame
pub record IsSpilledIn (a : State) (j k : ℕ) (kind : Kind) (b : State) : Type 0 where
  pub slot : StackSlot
  pub spill : IsSpill kind slot
  pub left : b ≡ with_frame_slots a j (slice_set (stack_slots_of a j) k slot)
  pub meant : Spills (stack_slots_of a j) k kind (slice_set (stack_slots_of a j) k slot)
