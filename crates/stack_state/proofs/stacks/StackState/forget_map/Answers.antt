use Rattle.std.proofs.Common.{arith, ◌≡◌, ◌≤◌, ◌++◌, List, map, take, drop, length, length-set, get_or, set, ap, sym, subst, refl, ◌∙◌}
use Rattle.stack_state.proofs.Common.{get_or_default, take_all, drop_all, append-nil, take-append-drop, map_over_more, StackSlot, StackSlots, forgotten_slot, forgotten, frame_slots, ForgetsMap}
use Rattle.stack_state.proofs.BlankLaws.{blank_mapped, blank_set}
use Rattle.stack_state.proofs.FillLaws.{forgets}
use Rattle.stack_state.proofs.stacks.StackState.forget_map.Goals as goal

pub loop-slot-init : goal.loop-slot-init
loop-slot-init c =
    let xs = c.self.inside.slots in
    let n = c.self.inside.known_from in
    let viewed : xs ≡ c.args.self.now.slots = ap (λ (s : StackSlots). s.slots) c.self.view_is in
    record {
      length = c.self.invariant.wide;
      done =
          sym (take-append-drop n xs)
          ∙ ap (λ (ys : List StackSlot). ys ++ drop n xs)
          (sym (blank_mapped (forgotten_slot c.args.map) n xs
          (omega (arith, c.self.invariant.wide, c.self.invariant.inside)) c.self.invariant.blank
          refl))
          ∙ ap (λ (ys : List StackSlot).
          map (forgotten_slot c.args.map) (take n ys) ++ drop n ys) viewed;
      blank = c.self.invariant.blank;
      from = omega arith;
    }

pub loop-slot-preserved : goal.loop-slot-preserved
loop-slot-preserved c =
    let xs = c.args.self.now.slots in
    let ys = c.loop-slot.self-inside.slots in
    let i = c.loop-slot.slot in
    let x = get_or ys i c.index-self-slot.result in
    let viewed = ap (λ (s : StackSlots). s.slots) c.self.view_is in
    let count : length xs ≡ frame_slots = ap length (sym viewed) ∙ c.self.invariant.wide in
    let wide : length ys ≡ frame_slots = c.loop-slot.invariant.length in
    record {
      length = length-set ys i c.forgotten_slot.result ∙ wide;
      done =
          ap (set ys i) c.forgotten_slot.ensures
          ∙ map_over_more (forgotten_slot c.args.map) xs ys i x
          (omega (arith, count)) c.loop-slot.invariant.done
          (get_or_default ys i c.index-self-slot.result x (omega (arith, wide)));
      blank =
          blank_set _ _ i _ ys (omega arith) c.loop-slot.invariant.from
          c.loop-slot.invariant.blank;
      from = omega (arith, c.loop-slot.invariant.from);
    }

pub returns : goal.returns
returns c =
    let xs = c.args.self.now.slots in
    let viewed = ap (λ (s : StackSlots). s.slots) c.self.view_is in
    let count : length xs ≡ frame_slots = ap length (sym viewed) ∙ c.self.invariant.wide in
    let over : length xs ≤ c.loop-slot.slot = omega (arith, count) in
    let all : c.loop-slot.self-inside.slots ≡ forgotten c.args.map xs =
    c.loop-slot.invariant.done ∙ (rw (take_all, drop_all, append-nil)) in
    record {
      exact = all;
      meant = subst (λ (s : List StackSlot). ForgetsMap c.args.map xs s) (sym all)
          (forgets xs c.args.map count);
    }
