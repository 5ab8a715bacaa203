-- The control flow of a program, as a graph on its slots. RFC 9669, sections 4.3 and 4.3.2.
use Rattle.std.specs.Prelude.{◌≡◌, ℕ, zero, suc, ◌+◌, ◌<◌, length, ℤ, if◌then◌else◌, IsSome, Option, Some, None}
use Rattle.std.specs.Option.{option_map, option_and_then}
use Rattle.isa_model.specs.declared.instructions.Insn.{Insn}
use Rattle.isa_model.specs.declared.instructions.Insn.TheVariants.{CallLocal}
use Rattle.isa_model.specs.Code.Instructions.{Program, fetch, slots_filled}
use Rattle.isa_model.specs.Machine.Steps.{destination}
use Rattle.isa_model.specs.Machine.Successors.{jump_distance, falls_through}

-- the distance of a call of a function of the program
abbrev pub call_distance : Insn → Option ℤ
call_distance (CallLocal by) = Some by
call_distance i = None

-- ---- where control goes from a slot

-- an instruction begins at the slot
abbrev pub BeginsInsn : Program → ℕ → Type 0
BeginsInsn p slot = IsSome (fetch p slot)

-- the slot is the second half of a wide load: every other slot of the code begins an instruction
abbrev pub IsSecondHalf : Program → ℕ → Type 0
IsSecondHalf p slot = (slot < length p.insns) × (fetch p slot ≡ None)

-- where the jump at a slot leads
unfoldable pub jump_to : Program → ℕ → Option ℕ
jump_to p slot = option_map (destination p slot) (option_and_then jump_distance (fetch p slot))

-- the function that the call at a slot calls
unfoldable pub call_to : Program → ℕ → Option ℕ
call_to p slot = option_map (destination p slot) (option_and_then call_distance (fetch p slot))

abbrev pub slot_behind : ℕ → Insn → Option ℕ
slot_behind slot i = if falls_through i then Some (slot + slots_filled i) else None

-- the slot after the instruction at a slot, if it falls through
unfoldable pub fall_to : Program → ℕ → Option ℕ
fall_to p slot = option_and_then (slot_behind slot) (fetch p slot)

-- control goes from a slot to another one. A function returns to the slot after its call: that slot
-- counts as a successor of the call itself, whether or not the function can return.
pub data HasEdge (p : Program) (slot to : ℕ) : Type 0 where
  Falls : fall_to p slot ≡ Some to → HasEdge p slot to
  Jumps : jump_to p slot ≡ Some to → HasEdge p slot to
  Calls : call_to p slot ≡ Some to → HasEdge p slot to

-- ---- paths

-- a path of n edges goes from slot 0 to the slot
abbrev pub ReachedIn : Program → ℕ → ℕ → Type 0
ReachedIn p zero slot = slot ≡ 0
ReachedIn p (suc n) slot = (from : ℕ) × ReachedIn p n from × HasEdge p from slot

abbrev pub Reached : Program → ℕ → Type 0
Reached p slot = (n : ℕ) × ReachedIn p n slot
