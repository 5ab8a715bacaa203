-- What is live, instruction by instruction.
use Rattle.control_flow.proofs.Common.{◌≡◌, ℕ, zero, suc, Some, sym, ap, ◌∙◌, subst, inl, inr, Reg, Insn, Program, fetch, Follows, IsOneOf, read_registers, written_registers, Home, InRegister, InSlot, WritesHome, IsWrittenBy, GoesTo, IsHomeLive, IsLive, IsSlotLive, ReadsSlot, WritesSlot}
use Rattle.control_flow.proofs.FlowLaws.{some_slot, jump_to-insn, fall_to-insn}

-- control goes from an instruction to each slot that follows it
pub GoesTo-Follows : (p : Program) (slot next : ℕ) → Follows p slot next → GoesTo p slot next
GoesTo-Follows p slot next (i, e, inl (falls, at)) =
    inl (fall_to-insn p slot i e falls ∙ ap some_slot (sym at))
GoesTo-Follows p slot next (i, e, inr (by, jump, at)) =
    inr (jump_to-insn p slot i by e jump ∙ ap some_slot (sym at))

-- what an instruction reads is live there
pub IsLive-read : (p : Program) (r : Reg) (slot : ℕ) (i : Insn) → fetch p slot ≡ Some i
    → IsOneOf (read_registers i) r → IsLive p r slot
IsLive-read p r slot i here reads = (zero, (i, here, reads))

-- what is live after an instruction that does not write it is live before it
pub IsHomeLive-back : (p : Program) (h : Home) (slot next : ℕ) (i : Insn) → fetch p slot ≡ Some i
    → (IsWrittenBy i h → ⊥)
    → Follows p slot next → IsHomeLive p h next → IsHomeLive p h slot
IsHomeLive-back p h slot next i here keeps follows (n, path) =
    (suc n, (next, GoesTo-Follows p slot next follows, not_written, path)) where
      not_written : WritesHome p h slot → ⊥
      not_written (j, there, writes) =
          let same : j ≡ i = cc in
          keeps (subst (λ (x : Insn). IsWrittenBy x h) same writes)

pub IsLive-back : (p : Program) (r : Reg) (slot next : ℕ) (i : Insn) → fetch p slot ≡ Some i
    → (IsOneOf (written_registers i) r → ⊥)
    → Follows p slot next → IsLive p r next → IsLive p r slot
IsLive-back p r slot next i here keeps follows live =
    IsHomeLive-back p (InRegister r) slot next i here keeps follows live

-- what it reads through r10 is live there
pub IsSlotLive-read : (p : Program) (j slot : ℕ) (i : Insn) → fetch p slot ≡ Some i → ReadsSlot i j
    → IsSlotLive p j slot
IsSlotLive-read p j slot i here reads = (zero, (i, here, inl reads))

pub IsSlotLive-back : (p : Program) (j slot next : ℕ) (i : Insn) → fetch p slot ≡ Some i
    → (WritesSlot i j → ⊥)
    → Follows p slot next → IsSlotLive p j next → IsSlotLive p j slot
IsSlotLive-back p j slot next i here keeps follows live =
    IsHomeLive-back p (InSlot j) slot next i here keeps follows live
