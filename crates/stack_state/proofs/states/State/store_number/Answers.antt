use Rattle.stack_state.proofs.Common.{if◌then◌else◌, true, false, ◌==◌, slice_set, ◌≡◌, ℕ, ◌<◌, ◌/◌, length, sym, ap, ◌∙◌, arith, refl, nat_tests, common_steps, AbstractFrame, State, abstract_frame_at, stack_slots_of, slot_at, with_slots, with_frame}
use Rattle.arrayvec.specs.ArrayVec.{with_item}
use Rattle.stack_state.proofs.states.State.store_number.Goals as goal

-- another caller
with_caller : (a : State) (j : ℕ) (f : AbstractFrame) → j < length a.callers.items
    → with_frame a j f ≡ record a { callers = with_item a.callers j f }
with_caller a j f inside =
    let n : ℕ = length a.callers.items in
    elim (j == n) as (λ b. (j == n) ≡ b
    → (if b then record a { innermost = f } else record a { callers = with_item a.callers j f })
    ≡ record a { callers = with_item a.callers j f }) [
      | true ↦ λ e. absurd (let same : n ≡ j = grind (arith, nat_tests) in omega arith)
      | false ↦ λ e. refl
    ] refl

pub returns-in-Some : goal.returns-in-Some
returns-in-Some c =
    let a : State = c.args.self.now in
    let k : ℕ = c.args.at / 8 in
    let f : AbstractFrame = c.in-Some.caller.now in
    let inside : c.args.frame < length a.callers.items = grind (arith, common_steps) in
    let same : abstract_frame_at a c.args.frame ≡ f = grind (arith, common_steps) in
    let index : c.from.result ≡ c.args.frame = omega arith in
    let s = slot_at c.store_number.new.self.slots k in
    record {
      slot = s;
      stored = grind (arith, common_steps);
      left =
          ap (λ i.
          record a
          { callers = with_item a.callers i (record f { stack = c.store_number.new.self }) }) index
          ∙ ap (λ l. record a { callers = with_item a.callers c.args.frame (with_slots f l) })
          c.store_number.ensures.others
          ∙ ap (λ g.
          record a {
            callers = with_item a.callers c.args.frame
                (with_slots g (slice_set g.stack.slots k s));
          }) (sym same)
          ∙ sym (with_caller a c.args.frame
          (with_slots (abstract_frame_at a c.args.frame)
          (slice_set (stack_slots_of a c.args.frame) k s)) inside);
      meant = grind (arith, common_steps);
    }

pub returns-in-None : goal.returns-in-None
returns-in-None c = record {
  slot = slot_at c.store_number-in-None.new.self.slots (c.args.at / 8);
  stored = grind (arith, common_steps);
  left = grind (arith, common_steps);
  meant = grind (arith, common_steps);
}
