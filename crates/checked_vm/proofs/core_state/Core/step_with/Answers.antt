use Rattle.checked_vm.proofs.Common.{◌≡◌, ◌+◌, ◌<◌, ◌^◌, ℕ, [], length, refl, sym, ap, ◌∙◌, rules, arith, Program, State, Next, state_of, after_time}
use Rattle.image.specs.Images.{program_of}
use Rattle.checked_vm.proofs.Acts.{next_within}
use Rattle.checked_vm.proofs.core_state.Core.step_with.Goals as goal

pub answer_time-requires-clause-slot : goal.answer_time-requires-clause-slot
answer_time-requires-clause-slot g c =
    let empty : Program = program_of c.args.version c.args.self.now.maps.rows [] in
    let p : Program = record empty { insns = c.args.insns.now } in
    let clock : ℕ → ℕ = λ k. 0 in
    let old : State = state_of c.args.self.now c.args.packet.now in
    let asked = c.in-AsksTime.ensures.step p clock refl refl refl in
    let within : c.args.self.now.slot < length c.args.insns.now =
    next_within p clock old (after_time clock old) asked.0 in
    let same : c.step.new.self.slot ≡ c.args.self.now.slot = ap (λ (s : State). s.slot) asked.1 in
    let few : length c.args.insns.now < 2 ^ 63 = search rules in
    omega (arith, within, same, few)

pub returns-in-AsksTime-clause-step : goal.returns-in-AsksTime-clause-step
returns-in-AsksTime-clause-step g c = λ p clock code rows version answers.
    let asked = c.in-AsksTime.ensures.step p clock code rows version in
    let clock_calls : c.step.new.self.clock_calls ≡ c.args.self.now.clock_calls + 0 =
    omega (arith, c.step.ensures.stays.clock_calls) in
    let time : clock c.step.new.self.clock_calls ≡ c.now.result =
    ap clock clock_calls ∙ sym (answers 0) ∙ sym c.now.ensures.first in
    asked.0 ∙ ap Next
    (ap (after_time clock) (sym asked.1)
    ∙ sym (c.answer_time.ensures.state c.step.new.packet clock time))
