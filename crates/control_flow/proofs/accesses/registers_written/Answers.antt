use Rattle.control_flow.proofs.Common.{List, sym, subst, ◌↔◌, Reg, IsOneOf, RegisterMask, HasRegister}
use Rattle.control_flow.proofs.MaskLemmas.{none_has}
use Rattle.control_flow.proofs.Reading.{written_others, found-with}
use Rattle.control_flow.proofs.accesses.registers_written.Goals as goal

pub returns-in_default : goal.returns-in_default
returns-in_default c = λ r.
    subst (λ (rs : List Reg). HasRegister c.with_found.result r ↔ IsOneOf rs r)
    (sym (written_others c.args.insn.now c.in_default.not-CallHelper c.in_default.not-CallLocal))
    (found-with (HasRegister c.none.result r)
    (HasRegister c.with_found.result r) c.written.result _ r c.written.ensures
    (λ h. none_has r (subst (λ (m : RegisterMask). HasRegister m r) c.none.ensures h))
    (c.with_found.ensures r))
