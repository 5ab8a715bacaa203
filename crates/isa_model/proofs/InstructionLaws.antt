-- Laws of the slots and the registers of instructions.
use Rattle.isa_model.proofs.Common.{◌≡◌, ◌≢◌, ℕ, ◌<◌, ◌≤◌, ◌⊎◌, false, length, Option, Some, None, ap, sym, arith, inl, inr, refl, option_flatten, option_to_list, slice_get_past, cases_lt, Reg, R10, Insn, LoadNumber, LoadMap, LoadMapValue, Program, fetch, slots_filled, is_frame_pointer}
use Rattle.isa_model.specs.MustAccept.Paths.{IsOneOf}

pub slots_filled-cases : (i : Insn) → (slots_filled i ≡ 1) ⊎ (slots_filled i ≡ 2)
slots_filled-cases (LoadNumber d n) = inr refl
slots_filled-cases (LoadMap d m) = inr refl
slots_filled-cases (LoadMapValue d m offset) = inr refl
slots_filled-cases i = inl refl

pub slots_filled-some : (i : Insn) → 1 ≤ slots_filled i
slots_filled-some i = elim (slots_filled-cases i) [ inl one ↦ omega arith | inr two ↦ omega arith ]

-- an instruction begins inside the code
pub fetch-below : (p : Program) (slot : ℕ) (i : Insn) → fetch p slot ≡ Some i → slot < length p.insns
fetch-below p slot i e =
    elim (cases_lt slot (length p.insns)) [
      | inl inside ↦ inside
      | inr past ↦
          let none : fetch p slot ≡ None = ap option_flatten (slice_get_past p.insns slot past) in
          absurd (cc)
    ]

-- a register that is not r10 is no frame pointer
pub is_frame_pointer-other : (o : Option Reg) → o ≢ Some R10 → is_frame_pointer o ≡ false
is_frame_pointer-other (Some R10) other = absurd (other refl)
is_frame_pointer-other (Some r) other = refl
is_frame_pointer-other None other = refl

-- one of at most one register is that register
pub IsOneOf-option : (o : Option Reg) (r : Reg) → IsOneOf (option_to_list o) r → o ≡ Some r
IsOneOf-option None r among = absurd among
IsOneOf-option (Some d) r (inl same) = ap Some (sym same)
IsOneOf-option (Some d) r (inr rest) = absurd rest
