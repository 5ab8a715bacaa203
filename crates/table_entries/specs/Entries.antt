-- Entries, as the bytes of a table have them.
use Rattle.std.specs.Prelude.{ℕ, ◌-◌, ◌≤◌, nat_lt, ◌==◌, ◌&&◌, ◌||◌, not, Bool, false, if◌then◌else◌, List, [], ◌∷◌, length, drop, Option, Some, None, Ok, Err, IsSome}
use Rattle.std.specs.Option.{is_some}
use Rattle.byteorder.specs.Endian.{little_number}
use Rattle.isa_model.specs.Code.Limits.{max_call_frames}
use Rattle.isa_model.specs.Code.Instructions.{Program, fetch}
use Rattle.isa_model.specs.declared.limits.TheConstants.{MAX_STEPS}
use Rattle.stack_state.specs.declared.states.AbstractFrame.{AbstractFrame}
use Rattle.stack_state.specs.declared.states.State.{State}
use Rattle.table_entries.specs.declared.entries.NamedEntries.{NamedEntries}
use Rattle.table_entries.specs.declared.entries.NamedEntries.TheVariants as named
use Rattle.table_entries.specs.declared.entries.EntryHead.{EntryHead}
use Rattle.table_entries.specs.declared.stops.StopReason.TheVariants.{Short, Meaningless}
use Rattle.table_entries.specs.Reading.{Read, sized, then_read}
use Rattle.table_entries.specs.Frames.{frame_in, callers_in}

-- a state with its number, and the entries that it names, the fall-through first
pub record Entry : Type 0 where
  pub number : ℕ
  pub state : State
  pub successors : List ℕ

-- the entries that are named
abbrev pub list_of : NamedEntries → List ℕ
list_of named.None = []
list_of (named.One i) = i ∷ []
list_of (named.Two i j) = i ∷ (j ∷ [])

abbrev pub entry_of : EntryHead → State → Entry
entry_of h a = record { number = h.number; state = a; successors = list_of h.named }

-- u8 count, and a u32 for each
unfoldable pub named_in : List ℕ → Read (List ℕ)
named_in [] = Err Short
named_in (count ∷ bytes) =
    if count == 0 then Ok (Some [], bytes)
    else if count == 1 then sized 4 (λ b. Some (little_number 4 b ∷ [])) bytes
    else if count == 2
    then sized 8 (λ b. Some (little_number 4 b ∷ (little_number 4 (drop 4 b) ∷ []))) bytes
    else Err Meaningless

-- a number from 1 to the greatest bound, and a slot where an instruction begins
pub record IsAllowed (p : Program) (number slot : ℕ) : Type 0 where
  pub some : 1 ≤ number
  pub most : number ≤ MAX_STEPS
  pub begins : IsSome (fetch p slot)

-- the same as a test
abbrev pub head_allowed : Program → ℕ → ℕ → Bool
head_allowed p number slot =
    (not (number == 0) && not (nat_lt MAX_STEPS number)) && is_some (fetch p slot)

abbrev pub entry_with : Program → ℕ → ℕ → Option (List AbstractFrame) → Option AbstractFrame
    → Option (List ℕ) → Option Entry
entry_with p number slot (Some callers) (Some innermost) (Some successors) =
    if head_allowed p number slot then
    Some (record {
      number = number;
      state = record { slot = slot; callers = record { items = callers }; innermost = innermost };
      successors = successors;
    })
    else None
entry_with p number slot callers innermost successors = None

-- the call frames, the innermost one last, and the entries that are named
abbrev pub rest_in : Program → ℕ → ℕ → ℕ → List ℕ → Read Entry
rest_in p number slot caller_count bytes =
    then_read (callers_in (length p.maps) caller_count bytes) (λ callers rest.
    then_read (frame_in (length p.maps) caller_count false rest) (λ innermost others.
    then_read (named_in others) (λ successors after.
    Ok (entry_with p number slot callers innermost successors, after))))

-- u32 number, u16 slot, u8 count of frames, the frames, and the entries that are named
unfoldable pub entry_in : Program → List ℕ → Read Entry
entry_in p bytes =
    if nat_lt (length bytes) 7 then Err Short
    else let count = little_number 1 (drop 6 bytes) in
    if count == 0 || nat_lt max_call_frames count then Err Meaningless
    else rest_in p (little_number 4 bytes) (little_number 2 (drop 4 bytes)) (count - 1)
    (drop 7 bytes)
