-- When a call frame covers another, by renamings of identities; and when a test of registers and
-- slots has to find that a state covers another.
use Rattle.std.specs.Prelude.{◌≡◌, ℕ, ◌<◌, List, map}
use Rattle.std.specs.Int.{bit_at}
use Rattle.reg_state.specs.declared.kinds.Kind.{Kind}
use Rattle.reg_state.specs.KindCover.{KindCovers, KindEncloses}
use Rattle.stack_state.specs.declared.slots.StackSlot.{StackSlot}
use Rattle.stack_state.specs.declared.slots.StackSlot.TheVariants.{Written, Spilled}
use Rattle.stack_state.specs.Slots.{slot_at, marks_of, frame_slots}
use Rattle.stack_state.specs.Meaning.{frames_of, kind_at, kinds_of, stack_slots_of}
use Rattle.stack_state.specs.declared.states.AbstractFrame.{AbstractFrame}
use Rattle.stack_state.specs.declared.states.State.{State}

-- ---- slots

-- each of the marks is one of the others
abbrev pub AreAmong : ℕ → ℕ → Type 0
AreAmong marks others = (i : ℕ) → i < 8 → bit_at marks i ≡ 1 → bit_at others i ≡ 1

-- the bytes that are known to be written in a are in b, where a spilled number is eight written
-- bytes; the kind of a spilled value covers that of a spilled one
abbrev pub SlotCovers : (ℕ → ℕ) → (ℕ → ℕ) → StackSlot → StackSlot → Type 0
SlotCovers packet null (Written marks) b = AreAmong marks (marks_of b)
SlotCovers packet null (Spilled k) (Spilled l) = KindCovers packet null k l
SlotCovers packet null (Spilled k) (Written marks) = ⊥

-- a covers b, and where they hold numbers their bits and limits show it
abbrev pub SlotEncloses : (ℕ → ℕ) → (ℕ → ℕ) → StackSlot → StackSlot → Type 0
SlotEncloses packet null (Written marks) b = AreAmong marks (marks_of b)
SlotEncloses packet null (Spilled k) (Spilled l) = KindEncloses packet null k l
SlotEncloses packet null (Spilled k) (Written marks) = ⊥

-- ---- frames

-- each register covers the same one
abbrev pub KindsCover : (ℕ → ℕ) → (ℕ → ℕ) → List Kind → List Kind → Type 0
KindsCover packet null xs ys = (k : ℕ) → KindCovers packet null (kind_at xs k) (kind_at ys k)

-- each slot covers the same one
abbrev pub SlotsCover : (ℕ → ℕ) → (ℕ → ℕ) → List StackSlot → List StackSlot → Type 0
SlotsCover packet null xs ys =
    (k : ℕ) → k < frame_slots → SlotCovers packet null (slot_at xs k) (slot_at ys k)

pub record FrameCovers (packet null : ℕ → ℕ) (f g : AbstractFrame) : Type 0 where
  pub returns : f.return_slot ≡ g.return_slot
  pub registers : KindsCover packet null f.registers g.registers
  pub slots : SlotsCover packet null f.stack.slots g.stack.slots

-- each register encloses the same one
abbrev pub KindsEnclose : (ℕ → ℕ) → (ℕ → ℕ) → List Kind → List Kind → Type 0
KindsEnclose packet null xs ys = (k : ℕ) → KindEncloses packet null (kind_at xs k) (kind_at ys k)

-- each slot encloses the same one
abbrev pub SlotsEnclose : (ℕ → ℕ) → (ℕ → ℕ) → List StackSlot → List StackSlot → Type 0
SlotsEnclose packet null xs ys = (k : ℕ) → SlotEncloses packet null (slot_at xs k) (slot_at ys k)

-- ---- states

-- each register and slot of a covers the same one of b, numbers by their bits and limits, under
-- these names of identities
pub record StateEncloses (packet null : ℕ → ℕ) (a b : State) : Type 0 where
  pub none : packet 0 ≡ 0
  pub slot : a.slot ≡ b.slot
  pub returns : map (λ f. f.return_slot) (frames_of a) ≡ map (λ f. f.return_slot) (frames_of b)
  pub registers : (j : ℕ) → KindsEnclose packet null (kinds_of a j) (kinds_of b j)
  pub slots : (j : ℕ) → SlotsEnclose packet null (stack_slots_of a j) (stack_slots_of b j)
