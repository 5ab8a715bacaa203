-- Call frames, as the bytes of a table have them. `rows` is how many map rows the program has,
-- `holder` which frame it is, the outermost first.
use Rattle.std.specs.Prelude.{ℕ, nat_lt, ◌==◌, ◌&&◌, ◌||◌, not, Bool, true, false, if◌then◌else◌, List, length, drop, Option, Some, None, Ok, Err}
use Rattle.byteorder.specs.Endian.{little_number}
use Rattle.reg_state.specs.declared.kinds.Kind.{Kind}
use Rattle.reg_state.specs.declared.kinds.Kind.TheVariants.{Unset}
use Rattle.stack_state.specs.declared.slots.StackSlot.{StackSlot}
use Rattle.stack_state.specs.declared.states.AbstractFrame.{AbstractFrame}
use Rattle.stack_state.specs.Meaning.{kind_at}
use Rattle.stack_state.specs.Slots.{frame_slots}
use Rattle.table_entries.specs.declared.stops.StopReason.TheVariants.{Short}
use Rattle.table_entries.specs.Reading.{Read, then_read, many}
use Rattle.table_entries.specs.Kinds.{kind_in, stack_slot_in}

abbrev pub is_unset : Kind → Bool
is_unset Unset = true
is_unset k = false

-- r0 to r5
abbrev pub are_unset : List Kind → Bool
are_unset kinds =
    is_unset (kind_at kinds 0)
    && (is_unset (kind_at kinds 1) && (is_unset (kind_at kinds 2) && (is_unset (kind_at kinds 3)
    && (is_unset (kind_at kinds 4) && is_unset (kind_at kinds 5)))))

-- the outermost call frame returns to slot 0; of an outer one, r0 to r5 are unset
abbrev pub frame_allowed : ℕ → Bool → ℕ → List Kind → Bool
frame_allowed holder outer return_slot kinds =
    (not (holder == 0) || return_slot == 0) && (not outer || are_unset kinds)

abbrev pub allowed_frame : ℕ → Bool → ℕ → Option (List Kind) → Option (List StackSlot)
    → Option AbstractFrame
allowed_frame holder outer return_slot (Some kinds) (Some slots) =
    if frame_allowed holder outer return_slot kinds
    then Some (record {
      return_slot = return_slot;
      registers = kinds;
      stack = record { slots = slots };
    }) else None
allowed_frame holder outer return_slot kinds slots = None

-- u16 return slot, ten kinds, the stack slots
unfoldable pub frame_in : ℕ → ℕ → Bool → List ℕ → Read AbstractFrame
frame_in rows holder outer bytes =
    if nat_lt (length bytes) 2 then Err Short
    else then_read (many (λ k. kind_in rows holder) 10 0 (drop 2 bytes)) (λ kinds rest.
    then_read (many (λ k. stack_slot_in rows holder) frame_slots 0 rest) (λ slots after.
    Ok (allowed_frame holder outer (little_number 2 bytes) kinds slots, after)))

-- n outer call frames
abbrev pub callers_in : ℕ → ℕ → List ℕ → Read (List AbstractFrame)
callers_in rows n bytes = many (λ holder. frame_in rows holder true) n 0 bytes
