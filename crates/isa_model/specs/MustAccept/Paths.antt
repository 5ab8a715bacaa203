-- Control flow of programs without calls: paths from slot 0, and what is written on them.
use Rattle.std.specs.Prelude.{◌≡◌, ℕ, zero, suc, ◌+◌, ◌*◌, ◌^◌, ◌<◌, ◌≤◌, ◌⊎◌, ℤ, Bool, true, false, IsSome, Option, Some, None, List, [], ◌∷◌, ◌++◌, length, count_by}
use Rattle.isa_model.specs.declared.registers.Reg.{Reg}
use Rattle.isa_model.specs.declared.registers.Reg.TheVariants.{R0}
use Rattle.isa_model.specs.declared.instructions.Insn.{Insn}
use Rattle.isa_model.specs.declared.instructions.Insn.TheVariants.{Alu, Neg, MovSx, ByteSwap, LoadNumber, Jump, JumpLong, JumpIf, Exit}
use Rattle.isa_model.specs.Code.Instructions.{Program, fetch, slots_filled, reads, writes}
use Rattle.isa_model.specs.Machine.Steps.{destination}
use Rattle.isa_model.specs.Machine.Successors.{falls_through, jump_distance, FallsTo, JumpsTo}
use Rattle.isa_model.specs.Code.Limits.{max_explored}

-- ---- forms and registers

-- arithmetic, wide number loads, jumps and exits
abbrev pub IsPlainForm : Insn → Type 0
IsPlainForm (Alu w op d source) = Unit {0}
IsPlainForm (Neg w d) = Unit {0}
IsPlainForm (MovSx e d r) = Unit {0}
IsPlainForm (ByteSwap order span d) = Unit {0}
IsPlainForm (LoadNumber d n) = Unit {0}
IsPlainForm (Jump by) = Unit {0}
IsPlainForm (JumpLong by) = Unit {0}
IsPlainForm (JumpIf cond by) = Unit {0}
IsPlainForm Exit = Unit {0}
IsPlainForm i = ⊥

abbrev pub is_conditional : Option Insn → Bool
is_conditional (Some (JumpIf cond by)) = true
is_conditional o = false

-- of each register of a list
abbrev pub Each : (Reg → Type 0) → List Reg → Type 0
Each P [] = Unit {0}
Each P (r ∷ rs) = P r × Each P rs

abbrev pub IsOneOf : List Reg → Reg → Type 0
IsOneOf [] q = ⊥
IsOneOf (r ∷ rs) q = (q ≡ r) ⊎ IsOneOf rs q

-- the registers that have to be set; an exit needs r0
abbrev pub needs : Insn → List Reg
needs Exit = R0 ∷ []
needs i = reads i

abbrev pub written_too : Option Reg → List Reg → List Reg
written_too None rs = rs
written_too (Some r) rs = r ∷ rs

-- ---- paths

-- a path of n edges from slot 0 to a slot, which writes these registers, the last one first
unfoldable pub PathTo : Program → ℕ → ℕ → List Reg → Type 0
PathTo p zero slot written = (slot ≡ 0) × (written ≡ [])
PathTo p (suc n) slot written =
    (from : ℕ) × (before : List Reg) × (i : Insn) × PathTo p n from before × (fetch p from ≡ Some i)
    × (FallsTo from i slot ⊎ JumpsTo p from i slot) × (written ≡ written_too (writes i) before)

-- control stays in the code and reaches all of it: each jump and each fall-through goes to an
-- instruction, so the last one does not fall through, and each instruction is on a path from slot 0
pub record IsWhole (p : Program) : Type 0 where
  pub jumps : (slot : ℕ) (i : Insn) (by : ℤ) → fetch p slot ≡ Some i → jump_distance i ≡ Some by
      → IsSome (fetch p (destination p slot by))
  pub falls : (slot : ℕ) (i : Insn) → fetch p slot ≡ Some i → falls_through i ≡ true
      → IsSome (fetch p (slot + slots_filled i))
  pub reached : (slot : ℕ) → IsSome (fetch p slot)
      → (n : ℕ) × (written : List Reg) × PathTo p n slot written

-- jumps lead forward, and there are few enough of them that may or may not be taken
pub record IsForward (p : Program) : Type 0 where
  pub forward : (slot : ℕ) (i : Insn) (by : ℤ) → fetch p slot ≡ Some i → jump_distance i ≡ Some by
      → slot < destination p slot by
  pub few : length p.insns * 2 ^ count_by is_conditional p.insns ≤ max_explored

-- each register that an instruction needs is one of those given, or was written on each path to it
abbrev pub AreWritten : Program → List Reg → Type 0
AreWritten p given =
    (n slot : ℕ) (before : List Reg) (i : Insn) → PathTo p n slot before → fetch p slot ≡ Some i
    → Each (IsOneOf (given ++ before)) (needs i)
