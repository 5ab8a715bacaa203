-- The slots to which an instruction leads within its function. RFC 9669, section 4.3.
use Rattle.std.specs.Prelude.{◌≡◌, ℕ, ◌+◌, ◌⊎◌, ℤ, Bool, true, false, Option, Some, None}
use Rattle.isa_model.specs.declared.instructions.Insn.{Insn}
use Rattle.isa_model.specs.declared.instructions.Insn.TheVariants.{Jump, JumpLong, JumpIf, Exit}
use Rattle.isa_model.specs.Code.Instructions.{Program, fetch, slots_filled}
use Rattle.isa_model.specs.Machine.Steps.{destination}

-- whether a run may go on with the next instruction; after a call it does when the function exits
abbrev pub falls_through : Insn → Bool
falls_through (Jump by) = false
falls_through (JumpLong by) = false
falls_through Exit = false
falls_through i = true

-- the distance of a jump, if it is taken
abbrev pub jump_distance : Insn → Option ℤ
jump_distance (Jump by) = Some by
jump_distance (JumpLong by) = Some by
jump_distance (JumpIf cond by) = Some by
jump_distance i = None

abbrev pub FallsTo : ℕ → Insn → ℕ → Type 0
FallsTo slot i next = (falls_through i ≡ true) × (next ≡ slot + slots_filled i)

abbrev pub JumpsTo : Program → ℕ → Insn → ℕ → Type 0
JumpsTo p slot i next = (by : ℤ) × (jump_distance i ≡ Some by) × (next ≡ destination p slot by)

-- control goes from the instruction at a slot to another slot, by falling through or by a jump
abbrev pub Follows : Program → ℕ → ℕ → Type 0
Follows p slot next =
    (i : Insn) × (fetch p slot ≡ Some i) × (FallsTo slot i next ⊎ JumpsTo p slot i next)
