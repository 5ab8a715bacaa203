use Rattle.stack_state.proofs.Common.{◌≡◌, ◌≤◌, ◌++◌, List, length, drop, replicate, set, ap, sym, subst, arith, ◌∙◌, StackSlot, Written, StackSlots, frame_slots}
use Rattle.std.proofs.lemmas.List.{length-set}
use Rattle.stack_state.proofs.BlankLaws.{blank_first, blank_more}
use Rattle.stack_state.proofs.stacks.StackState.forget_before.Goals as goal

pub returns-then-end-self : goal.returns-then-end-self
returns-then-end-self c =
    let xs = c.self.inside.slots in
    let viewed : xs ≡ c.args.self.now.slots = ap (λ (s : StackSlots). s.slots) c.self.view_is in
    let wide : length xs ≡ frame_slots = c.self.invariant.wide in
    let low : c.args.end ≤ c.self.inside.known_from = omega arith in
    record {
      before =
          subst (λ (ys : List StackSlot).
          ys ≡ replicate c.args.end (Written 0) ++ drop c.args.end ys)
          viewed
          (blank_first c.args.end xs (omega (arith, wide, c.requires))
          (λ k below. c.self.invariant.blank k (omega (arith, low))));
      wide = ap length (sym viewed) ∙ wide;
    }

pub loop-index-init : goal.loop-index-init
loop-index-init c =
    let xs = c.self.inside.slots in
    let n = c.self.inside.known_from in
    let viewed : xs ≡ c.args.self.now.slots = ap (λ (s : StackSlots). s.slots) c.self.view_is in
    let wide : length xs ≡ frame_slots = c.self.invariant.wide in
    record {
      length = wide;
      done =
          blank_first n xs (omega (arith, wide, c.self.invariant.inside)) c.self.invariant.blank
          ∙ ap (λ (ys : List StackSlot). replicate n (Written 0) ++ drop n ys) viewed;
    }

pub loop-index-preserved : goal.loop-index-preserved
loop-index-preserved c =
    let i = c.loop-index.index in
    let xs = c.args.self.now.slots in
    let viewed = ap (λ (s : StackSlots). s.slots) c.self.view_is in
    let wide : length xs ≡ frame_slots = ap length (sym viewed) ∙ c.self.invariant.wide in
    record {
      length =
          length-set c.loop-index.self-inside.slots i c.mark.new.slot
          ∙ c.loop-index.invariant.length;
      done =
          ap (set c.loop-index.self-inside.slots i) c.mark.ensures
          ∙ blank_more i xs c.loop-index.self-inside.slots (omega (arith, wide))
          c.loop-index.invariant.done;
    }
