-- Why an entry of a table cannot be named for a successor, as text.
use Rattle.std.specs.Prelude.{◌≡◌, ◌≢◌, ℕ, ◌+◌, ◌-◌, ◌<◌, ◌≤◌, List, ◌++◌, length, Some, None, codes, decimal}
use Rattle.std.specs.Fmt.{signed_decimal}
use Rattle.stack_state.specs.declared.states.State.{State}
use Rattle.stack_state.specs.Meaning.{depth, abstract_frame_at, kinds_of, stack_slots_of, kind_at}
use Rattle.stack_state.specs.Slots.{slot_at, frame_slots}
use Rattle.table_entries.specs.Entries.{Entry}
use Rattle.rechecking.specs.Tables.{EntryAt}
use Rattle.explanations.specs.Fronts.{FrontCovers, FrontIsOpen}
use Rattle.explanations.specs.Kinds.{calls_up, kind_words}
use Rattle.explanations.specs.Slots.{offset_of, slot_words}
use Rattle.explanations.specs.declared.mismatches.Mismatch.{Mismatch}
use Rattle.explanations.specs.declared.mismatches.Mismatch.TheVariants.{Missing, NotSmaller, Slot, Frames, Returns, Register, Stack}

-- ---- what is wrong with an entry that is named

-- the call frames that it names are in both states
abbrev pub IsInBoth : State → State → Mismatch → Type 0
IsInBoth e a (Returns frame) = (frame < depth e) × (frame < depth a)
IsInBoth e a (Register frame register) = (frame < depth e) × (frame < depth a)
IsInBoth e a (Stack frame slot) = (frame < depth e) × (frame < depth a) × (slot < frame_slots)
IsInBoth e a m = Unit {0}

-- the front of e before a register or stack slot covers a, and the one with it does not, as far as
-- registers and stack slots show it
pub record IsFirstApart (e a : State) (last registers slots more_registers more_slots : ℕ)
    : Type 0 where
  pub before : FrontCovers e a last registers slots
  pub apart : FrontIsOpen e a last more_registers more_slots

-- the state of the entry, and a successor
abbrev pub Differs : State → State → Mismatch → Type 0
Differs e a Missing = ⊥
Differs e a (NotSmaller number) = ⊥
Differs e a Slot = e.slot ≢ a.slot
Differs e a Frames = depth e ≢ depth a
Differs e a (Returns frame) =
    (abstract_frame_at e frame).return_slot ≢ (abstract_frame_at a frame).return_slot
Differs e a (Register frame register) = IsFirstApart e a frame register 0 (register + 1) 0
Differs e a (Stack frame slot) = IsFirstApart e a frame 10 slot 10 (slot + 1)

-- the entry of that index is there with this state and a smaller number, and differs so
pub record IsThere (t : EntryAt) (number index : ℕ) (e a : State) (m : Mismatch) : Type 0 where
  pub entry : Entry
  pub there : t index ≡ Some entry
  pub state_is : entry.state ≡ e
  pub smaller : entry.number < number
  pub differs : Differs e a m
  pub inside : IsInBoth e a m

-- its number is this one
pub record EntryHasNumber (t : EntryAt) (number index other : ℕ) : Type 0 where
  pub entry : Entry
  pub there : t index ≡ Some entry
  pub number_is : entry.number ≡ other
  pub greater : number ≤ other

-- why the entry of that index cannot be named for the state a, by an entry of that number
abbrev pub IsMismatch : EntryAt → ℕ → ℕ → State → State → Mismatch → Type 0
IsMismatch t number index e a Missing = t index ≡ None
IsMismatch t number index e a (NotSmaller other) = EntryHasNumber t number index other
IsMismatch t number index e a m = IsThere t number index e a m

-- ---- words

-- the successor, the entry that is named for it, in what that differs, and what each of them has
-- there
abbrev pub difference_lines : ℕ → ℕ → List ℕ → List ℕ → List ℕ → List ℕ
difference_lines nth index what here there =
    codes "successor " ++ (decimal nth ++ (codes ": entry " ++ (decimal index ++ (codes " " ++ (what
    ++ (codes "\nafter the step: "
    ++ (here ++ (codes "\nin the entry: " ++ (there ++ codes "\n")))))))))

-- how many calls up from the innermost frame this one is
abbrev pub up_words : State → ℕ → List ℕ
up_words a frame = calls_up (length a.callers.items - frame)

abbrev pub register_words : State → ℕ → ℕ → List ℕ
register_words a frame register =
    kind_words (length a.callers.items) (kind_at (kinds_of a frame) register)

abbrev pub stack_words : State → ℕ → ℕ → List ℕ
stack_words a frame slot =
    slot_words (length a.callers.items) slot (slot_at (stack_slots_of a frame) slot)

abbrev pub stack_difference : State → ℕ → ℕ → List ℕ
stack_difference a frame slot =
    codes "does not cover stack " ++ (signed_decimal (offset_of slot 0) ++ up_words a frame)

abbrev pub returns_words : State → ℕ → List ℕ
returns_words a frame = codes "slot " ++ decimal (abstract_frame_at a frame).return_slot

-- why the entry with that index and the state e cannot be named for a, the nth successor of an
-- entry with that number
abbrev pub mismatch_lines : ℕ → ℕ → ℕ → State → State → Mismatch → List ℕ
mismatch_lines number nth index e a Missing =
    codes "successor "
    ++ (decimal nth ++ (codes ": there is no entry " ++ (decimal index ++ codes "\n")))
mismatch_lines number nth index e a (NotSmaller other) =
    codes "successor "
    ++ (decimal nth
    ++ (codes ": entry " ++ (decimal index ++ (codes " has number " ++ (decimal other
    ++ (codes ", not smaller than " ++ (decimal number ++ codes "\n")))))))
mismatch_lines number nth index e a Slot =
    difference_lines nth index (codes "is at another slot") (codes "slot " ++ decimal a.slot)
    (codes "slot " ++ decimal e.slot)
mismatch_lines number nth index e a Frames =
    difference_lines nth index (codes "has another number of frames") (decimal (depth a))
    (decimal (depth e))
mismatch_lines number nth index e a (Returns frame) =
    difference_lines nth index (codes "returns to another slot" ++ up_words a frame)
    (returns_words a frame) (returns_words e frame)
mismatch_lines number nth index e a (Register frame register) =
    difference_lines nth index (codes "does not cover r" ++ (decimal register ++ up_words a frame))
    (register_words a frame register) (register_words e frame register)
mismatch_lines number nth index e a (Stack frame slot) =
    difference_lines nth index (stack_difference a frame slot) (stack_words a frame slot)
    (stack_words e frame slot)
