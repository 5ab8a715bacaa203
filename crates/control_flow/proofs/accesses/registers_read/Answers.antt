use Rattle.control_flow.proofs.Common.{List, ◌∙◌, sym, subst, rules, ◌↔◌, Reg, IsOneOf, RegisterMask, HasRegister}
use Rattle.control_flow.proofs.MaskLemmas.{none_has}
use Rattle.control_flow.proofs.Reading.{read_others, among-with}
use Rattle.control_flow.proofs.accesses.registers_read.Goals as goal

pub returns-in_default : goal.returns-in_default
returns-in_default c = λ r.
    subst (λ (rs : List Reg). HasRegister c.with_found-in_default-2.result r ↔ IsOneOf rs r)
    (c.read-first.ensures
    ∙ sym (read_others c.args.insn.now c.in_default.not-CallLocal c.in_default.not-Exit))
    (among-with (HasRegister c.none-in_default.result r) (HasRegister c.with_found.result r)
    (HasRegister c.with_found-two.result r) (HasRegister c.with_found-in_default.result r)
    (HasRegister c.with_found-in_default-2.result r)
    c.read-first.result.0 c.read-first.result.1 c.read-first.result.2 c.read-first.result.3 r
    (λ h. none_has r (subst (λ (m : RegisterMask). HasRegister m r) c.none-in_default.ensures h))
    (c.with_found.ensures r) (c.with_found-two.ensures r) (c.with_found-in_default.ensures r)
    (c.with_found-in_default-2.ensures r))

pub returns-in-Exit : goal.returns-in-Exit
returns-in-Exit c = search rules
