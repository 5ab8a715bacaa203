-- Jumps to names, and calls of them.
use Rattle.std.specs.Prelude.{ℕ, ◌+◌, ◌^◌, ℤ, pos, negsuc, ◌-ℤ◌, nat_lt, Bool, if◌then◌else◌, List, [], ◌∷◌, slice_get, slice_set, Option, Some, None, Result, Ok, Err}
use Rattle.isa_model.specs.declared.instructions.Insn.{Insn}
use Rattle.isa_model.specs.declared.instructions.Insn.TheVariants.{Jump, JumpLong, JumpIf, CallLocal}
use Rattle.assembler.specs.declared.errors.AsmErrorKind.{AsmErrorKind}
use Rattle.assembler.specs.declared.errors.AsmErrorKind.TheVariants.{NotDefined, TooFar}
use Rattle.assembler.specs.declared.refusals.Refusal.{Refusal}
use Rattle.assembler.specs.declared.names.Use.{Use}
use Rattle.assembler.specs.Operands.{◌>>=◌}

-- an instruction that jumps to a name or calls it: its index among the instructions, its slot, the
-- name, and the name's offset in the text
pub record NameUse : Type 0 where
  pub index : ℕ
  pub slot : ℕ
  pub name : List ℕ
  pub offset : ℕ

abbrev pub use_of : Use → NameUse
use_of used = record {
  index = used.index;
  slot = used.slot;
  name = used.name.now;
  offset = used.offset;
}

-- the distance to a slot, from the slot after another
abbrev pub distance : ℕ → ℕ → ℤ
distance from to = pos to -ℤ pos (from + 1)

-- ---- which uses of names are refused

-- from -2^15 up to below 2^15
abbrev pub is_near : ℤ → Bool
is_near (pos n) = nat_lt n (2 ^ 15)
is_near (negsuc n) = nat_lt n (2 ^ 15)

-- the jump or call over that distance, unless it has 16 bits for it and that is too far
abbrev pub aimed : Insn → ℤ → Option Insn
aimed (Jump old) by = if is_near by then Some (Jump by) else None
aimed (JumpIf c old) by = if is_near by then Some (JumpIf c by) else None
aimed (JumpLong old) by = Some (JumpLong by)
aimed (CallLocal old) by = Some (CallLocal by)
aimed i by = Some i

abbrev pub or_too_far : Option Insn → Result Insn AsmErrorKind
or_too_far None = Err TooFar
or_too_far (Some i) = Ok i

-- an instruction at a slot, with the distance to the slot of its name
abbrev pub aim : Option ℕ → ℕ → Insn → Result Insn AsmErrorKind
aim None from i = Err NotDefined
aim (Some to) from i = or_too_far (aimed i (distance from to))

-- ---- all uses of names

abbrev pub aim_used : (List ℕ → Option ℕ) → NameUse → Option Insn → Result Insn AsmErrorKind
aim_used slot_of u None = Err NotDefined
aim_used slot_of u (Some i) = aim (slot_of u.name) u.slot i

abbrev pub put : NameUse → List Insn → Result Insn AsmErrorKind → Result (List Insn) Refusal
put u is (Ok i) = Ok (slice_set is u.index i)
put u is (Err kind) = Err (record { kind = kind; offset = u.offset })

-- the instructions with the distances of the names that they use; the first use that is wrong is
-- refused, at its offset
abbrev pub resolved : (List ℕ → Option ℕ) → List NameUse → List Insn → Result (List Insn) Refusal
resolved slot_of [] is = Ok is
resolved slot_of (u ∷ us) is =
    put u is (aim_used slot_of u (slice_get is u.index)) >>= λ next. resolved slot_of us next
