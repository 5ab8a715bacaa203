-- The front of an abstract state, frame by frame: what is known of its first registers and stack
-- slots, and of no others; and whether a front covers another state.
use Rattle.std.specs.Prelude.{◌≡◌, ℕ, ◌<◌, ◌≤◌, List, length, map, nat_eq, nat_lt, if◌then◌else◌}
use Rattle.isa_model.specs.Code.Instructions.{Program}
use Rattle.reg_state.specs.declared.kinds.Kind.{Kind}
use Rattle.reg_state.specs.declared.kinds.Kind.TheVariants.{Unset}
use Rattle.reg_state.specs.KindCover.{KindEncloses}
use Rattle.stack_state.specs.declared.slots.StackSlot.{StackSlot}
use Rattle.stack_state.specs.declared.slots.StackSlot.TheVariants.{Written}
use Rattle.stack_state.specs.declared.states.AbstractFrame.{AbstractFrame}
use Rattle.stack_state.specs.declared.states.State.{State}
use Rattle.stack_state.specs.Slots.{slot_at, frame_slots}
use Rattle.stack_state.specs.Meaning.{abstract_frame_at, depth, frames_of, kind_at, kinds_of, stack_slots_of, Covers}
use Rattle.state_cover.specs.FrameCover.{SlotEncloses}

-- ---- what is known of a front

-- of the first registers what was known, and nothing of the others
pub record AreFirstKinds (count : ℕ) (old new : List Kind) : Type 0 where
  pub kept : (k : ℕ) → k < count → kind_at new k ≡ kind_at old k
  pub others : (k : ℕ) → count ≤ k → kind_at new k ≡ Unset

-- the same of stack slots
pub record AreFirstSlots (count : ℕ) (old new : List StackSlot) : Type 0 where
  pub kept : (k : ℕ) → k < count → slot_at new k ≡ slot_at old k
  pub others : (k : ℕ) → count ≤ k → slot_at new k ≡ Written 0

-- the frame with what is known of as many registers and stack slots
pub record IsFrontOf (registers slots : ℕ) (old new : AbstractFrame) : Type 0 where
  pub returns : new.return_slot ≡ old.return_slot
  pub registers_are : AreFirstKinds registers old.registers new.registers
  pub slots_are : AreFirstSlots slots old.stack.slots new.stack.slots

-- how much of a frame is in the front: all of it before the last frame, as much as is said of the
-- last one, and nothing of those after it
abbrev pub count_in : ℕ → ℕ → ℕ → ℕ → ℕ
count_in last count all frame =
    if nat_lt frame last then all else (if nat_eq frame last then count else 0)

-- what is known of all frames before the last one, and of as many registers and stack slots of that
pub record IsFront (e : State) (last registers slots : ℕ) (front : State) : Type 0 where
  pub slot_is : front.slot ≡ e.slot
  pub as_many : length front.callers.items ≡ length e.callers.items
  pub frames : (j : ℕ) → j < depth e
      → IsFrontOf (count_in last registers 10 j) (count_in last slots frame_slots j)
      (abstract_frame_at e j) (abstract_frame_at front j)

-- ---- what it covers

-- the front means all machine states that the other state means
pub record FrontCovers (e a : State) (last registers slots : ℕ) : Type 0 where
  pub front : State
  pub is : IsFront e last registers slots front
  pub covers : (p : Program) → Covers p front a

-- each register and stack slot of the front covers the same one of a, numbers by their bits and
-- limits, under these names of identities
pub record FrontEncloses (packet null : ℕ → ℕ) (e a : State)
    (last registers slots : ℕ) : Type 0 where
  pub none : packet 0 ≡ 0
  pub slot : e.slot ≡ a.slot
  pub returns : map (λ f. f.return_slot) (frames_of e) ≡ map (λ f. f.return_slot) (frames_of a)
  pub kinds : (j k : ℕ) → k < count_in last registers 10 j
      → KindEncloses packet null (kind_at (kinds_of e j) k) (kind_at (kinds_of a j) k)
  pub stack_slots : (j k : ℕ) → k < count_in last slots frame_slots j
      → SlotEncloses packet null (slot_at (stack_slots_of e j) k) (slot_at (stack_slots_of a j) k)

-- under no names do the registers and stack slots of the front cover those of a
abbrev pub FrontIsOpen : State → State → ℕ → ℕ → ℕ → Type 0
FrontIsOpen e a last registers slots =
    (packet null : ℕ → ℕ) → ¬ FrontEncloses packet null e a last registers slots
