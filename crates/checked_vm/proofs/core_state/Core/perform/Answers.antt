use Rattle.checked_vm.proofs.Common.{FitsSigned, w32, rules, sym, subst, ◌∙◌, to_z-of_z, StepResult, state_of, IsStep}
use Rattle.checked_vm.proofs.Acts.{performed_acts}
use Rattle.checked_vm.proofs.core_state.Core.perform.Goals as goal

pub returns-in-CallHelper-clause-step : goal.returns-in-CallHelper-clause-step
returns-in-CallHelper-clause-step c = λ p clock count rows version.
    let fits : FitsSigned w32 c.in-CallHelper.number = search rules in
    let old = state_of c.args.self.now c.args.packet.now in
    let step = simp to_z-of_z at c.call_helper.ensures.step p clock rows in
    let same =
    performed_acts p clock old c.args.insn.now _ c.in-CallHelper.is
    (sym c.is_reading_unset.ensures ∙ c.if-is_reading_unset.false)
    (sym c.writes_frame_pointer.ensures ∙ c.if-writes_frame_pointer.false) in
    subst (λ (r : StepResult). IsStep clock r c.call_helper.result old
    (state_of c.call_helper.new.self c.args.packet.now)) (sym same) step

pub returns-in-Err : goal.returns-in-Err
returns-in-Err c = search rules
