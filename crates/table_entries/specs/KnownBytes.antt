-- Bytes that are known to spell parts of a state. `rows` is how many map rows the program has,
-- `holder` the index of a call frame, the outermost first.
use Rattle.std.specs.Prelude.{◌≡◌, ℕ, ◌⊎◌, true, false, List, [], ◌∷◌, ◌++◌, length, slice_get, Option, Some, Ok}
use Rattle.std.specs.Borrow.{Bor}
use Rattle.stack_state.specs.declared.slots.StackSlot.{StackSlot}
use Rattle.stack_state.specs.declared.states.AbstractFrame.{AbstractFrame}
use Rattle.stack_state.specs.declared.states.State.{State}
use Rattle.stack_state.specs.Slots.{frame_slots}
use Rattle.table_entries.specs.declared.known_bytes.FrameBytes.{FrameBytes}
use Rattle.table_entries.specs.declared.known_bytes.KnownBytes.{KnownBytes}
use Rattle.table_entries.specs.Reading.{many}
use Rattle.table_entries.specs.Kinds.{stack_slot_in}
use Rattle.table_entries.specs.Frames.{frame_in, callers_in}

-- ---- outer frames

-- the bytes spell the outer frame, whatever comes after them
abbrev pub SpellsFrame : ℕ → ℕ → List ℕ → AbstractFrame → Type 0
SpellsFrame rows holder bytes f =
    (rest : List ℕ) → frame_in rows holder true (bytes ++ rest) ≡ Ok (Some f, rest)

-- if bytes are known for that index, they spell the frame
abbrev pub SpellsAt : ℕ → List FrameBytes → ℕ → AbstractFrame → Type 0
SpellsAt rows known holder f =
    (s : FrameBytes) → slice_get known holder ≡ Some s → SpellsFrame rows holder s.bytes.now f

-- all bytes that are known spell their frames
abbrev pub SpellFrames : ℕ → List FrameBytes → List AbstractFrame → Type 0
SpellFrames rows known frames =
    (holder : ℕ) (f : AbstractFrame) → slice_get frames holder ≡ Some f
    → SpellsAt rows known holder f

-- all bytes that are known spell some outer frame
abbrev pub ArePassed : ℕ → List FrameBytes → Type 0
ArePassed rows known = (holder : ℕ) (s : FrameBytes) → slice_get known holder ≡ Some s
    → (f : AbstractFrame) × SpellsFrame rows holder s.bytes.now f

-- the bytes begin with those that are known for that index
abbrev pub BeginsKnown : List FrameBytes → ℕ → List ℕ → List ℕ → Type 0
BeginsKnown known holder bytes rest =
    (s : FrameBytes) × (slice_get known holder ≡ Some s) × (bytes ≡ s.bytes.now ++ rest)

-- the bytes become known for that index, or none do
abbrev pub IsNoted : ℕ → List ℕ → List FrameBytes → List FrameBytes → Type 0
IsNoted holder bytes old new =
    (new ≡ old)
    ⊎ ((s : FrameBytes) × (length old ≡ holder) × (s.bytes.now ≡ bytes) × (new ≡ old ++ s ∷ []))

-- bytes that spell the frame become known for that index, or none do
abbrev pub NotesFrame : ℕ → ℕ → AbstractFrame → List FrameBytes → List FrameBytes → Type 0
NotesFrame rows holder f old new =
    (new ≡ old)
    ⊎ ((s : FrameBytes) × (length old ≡ holder) × SpellsFrame rows holder s.bytes.now f
    × (new ≡ old ++ s ∷ []))

-- ---- stack slots

-- the bytes spell the stack slots, whatever comes after them
abbrev pub SpellsSlots : ℕ → ℕ → List ℕ → List StackSlot → Type 0
SpellsSlots rows holder bytes slots =
    (rest : List ℕ)
    → many (λ k. stack_slot_in rows holder) frame_slots 0 (bytes ++ rest) ≡ Ok (Some slots, rest)

-- if bytes are known, they spell the stack slots
abbrev pub SpellSlots : ℕ → ℕ → Option (Bor (List ℕ)) → List StackSlot → Type 0
SpellSlots rows holder known slots =
    (b : Bor (List ℕ)) → known ≡ Some b → SpellsSlots rows holder b.now slots

-- ---- all frames

-- the bytes begin with the spelling of a state's frames
pub record SpellState (rows : ℕ) (bytes : List ℕ) (a : State) (rest : List ℕ) : Type 0 where
  pub between : List ℕ
  pub outer : callers_in rows (length a.callers.items) bytes ≡ Ok (Some a.callers.items, between)
  pub inner : frame_in rows (length a.callers.items) false between ≡ Ok (Some a.innermost, rest)

-- all bytes that are known spell their parts of the state
pub record AreSpelled (rows : ℕ) (known : KnownBytes) (a : State) : Type 0 where
  pub frames : SpellFrames rows known.frames.items a.callers.items
  pub slots : SpellSlots rows (length a.callers.items) known.slots a.innermost.stack.slots
