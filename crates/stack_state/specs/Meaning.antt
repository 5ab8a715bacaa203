-- What abstract states mean: sets of machine states.
use Rattle.std.specs.Prelude.{◌≡◌, ℕ, suc, ◌+◌, ◌<◌, pos, List, [], ◌∷◌, ◌++◌, map, length, slice_index_or}
use Rattle.isa_model.specs.declared.registers.Reg.TheVariants.{R10}
use Rattle.isa_model.specs.Code.Instructions.{Program}
use Rattle.isa_model.specs.Machine.States.{value_at, reg, frame_pointer, call_frame_at}
use Rattle.isa_model.specs.Machine.States as Machine
use Rattle.isa_model.specs.Machine.Calls.{innermost}
use Rattle.isa_model.specs.Running.Ends.{Ends}
use Rattle.isa_model.specs.Machine.MachineStates.{IsState, IsClock}
use Rattle.reg_state.specs.declared.kinds.Kind.{Kind}
use Rattle.reg_state.specs.declared.kinds.Kind.TheVariants.{Unset}
use Rattle.reg_state.specs.Kinds.{Assigned, Allows}
use Rattle.stack_state.specs.declared.slots.StackSlot.{StackSlot}
use Rattle.stack_state.specs.declared.states.AbstractFrame.{AbstractFrame}
use Rattle.stack_state.specs.declared.states.State.{State}
use Rattle.stack_state.specs.StackMeaning.{StackMeans}

-- ---- call frames

-- the live frames, the outermost first
abbrev pub frames_of : State → List AbstractFrame
frames_of a = a.callers.items ++ a.innermost ∷ []

-- how many there are
abbrev pub depth : State → ℕ
depth a = length a.callers.items + 1

abbrev pub no_frame : AbstractFrame
no_frame = record { return_slot = 0; registers = []; stack = record { slots = [] } }

-- a frame, counted from the outermost, 0
abbrev pub abstract_frame_at : State → ℕ → AbstractFrame
abstract_frame_at a j = slice_index_or (frames_of a) j no_frame

-- its registers
abbrev pub kinds_of : State → ℕ → List Kind
kinds_of a j = (abstract_frame_at a j).registers

-- and its stack slots
abbrev pub stack_slots_of : State → ℕ → List StackSlot
stack_slots_of a j = (abstract_frame_at a j).stack.slots

-- the registers of the innermost frame
abbrev pub registers_of : State → List Kind
registers_of a = a.innermost.registers

-- the kind of register k
abbrev pub kind_at : List Kind → ℕ → Kind
kind_at kinds k = slice_index_or kinds k Unset

-- ---- meaning

-- the assignment fits this machine state
pub record AssignmentFits (e : Assigned) (s : Machine.State) : Type 0 where
  pub none : e.offset 0 ≡ pos 0
  pub length_is : e.packet_length ≡ length s.packet
  pub serials : e.frames ≡ map (λ f. f.serial) s.frames
  pub contents : e.maps ≡ s.maps

-- under the assignment, the machine state is a member of the abstract state
pub record MeansBy (p : Program) (e : Assigned) (a : State) (s : Machine.State) : Type 0 where
  pub is_state : IsState p s
  pub assigned : AssignmentFits e s
  pub slot_is : s.slot ≡ a.slot
  pub returns : map (λ f. f.return_slot) s.frames ≡ map (λ f. f.return_slot) (frames_of a)
  pub pointer : reg s R10 ≡ frame_pointer (innermost s.frames).serial
  pub registers : (k : ℕ) → Allows e (kind_at (registers_of a) k) (value_at s.regs k)
  -- the registers that a call saved for the frame are in the frame that it pushed
  pub kept : (j k : ℕ) → suc j < depth a → k < 4
      → Allows e (kind_at (kinds_of a j) (6 + k))
      (value_at (call_frame_at s.frames (suc j)).saved k)
  -- each live frame's stack slots mean its cells
  pub stacks : (j : ℕ) → j < depth a
      → StackMeans e (stack_slots_of a j) (call_frame_at s.frames j).cells

-- one assignment is used for the whole state
unfoldable pub Means : Program → State → Machine.State → Type 0
Means p a s = (e : Assigned) × MeansBy p e a s

-- the run of every member exits within n steps, with every clock
unfoldable pub Within : Program → State → ℕ → Type 0
Within p a n =
    (clock : ℕ → ℕ) → IsClock clock → (s : Machine.State) → Means p a s → Ends p clock s n

-- every member of b is a member of a
unfoldable pub Covers : Program → State → State → Type 0
Covers p a b = (s : Machine.State) → Means p b s → Means p a s
