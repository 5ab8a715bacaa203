use Rattle.control_flow.proofs.Common.{◌≡◌, ℕ, Some, sym, subst, ◌↔◌, Insn, ReadsSlot}
use Rattle.control_flow.proofs.stack_accesses.slot_read.Goals as goal

pub returns-in-Load : goal.returns-in-Load
returns-in-Load c =
    subst (λ (i : Insn). (j : ℕ) → (c.slot_of.result ≡ Some j) ↔ ReadsSlot i j)
    (sym c.in-Load.is) c.slot_of.ensures

pub returns-in-LoadSx : goal.returns-in-LoadSx
returns-in-LoadSx c =
    subst (λ (i : Insn). (j : ℕ) → (c.slot_of-in-LoadSx.result ≡ Some j) ↔ ReadsSlot i j)
    (sym c.in-LoadSx.is) c.slot_of-in-LoadSx.ensures
