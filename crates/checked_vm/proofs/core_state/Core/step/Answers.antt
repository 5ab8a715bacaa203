use Rattle.checked_vm.proofs.Common.{None, sym, ◌∙◌, ltb-true, get_or_default}
use Rattle.checked_vm.proofs.core_state.Core.step.Goals as goal

pub perform-requires-clause-named : goal.perform-requires-clause-named
perform-requires-clause-named c =
    let insns = c.args.insns.now in
    let slot = c.args.self.now.slot in
    let found = c.in-Some-Some.ensures.lookup in
    let same = get_or_default insns slot None c.in-Some-Some.field-0.now
    (ltb-true slot _ (sym found.0)) in
    c.requires.named slot c.in-Some-Some.insn (same ∙ sym found.1 ∙ c.in-Some-Some.field-0-is)
