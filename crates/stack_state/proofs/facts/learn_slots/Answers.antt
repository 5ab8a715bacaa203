use Rattle.std.proofs.Common.{arith, ◌≤◌, ◌++◌, List, length, length-set, get_or, drop, ap, sym, refl, ◌∙◌}
use Rattle.stack_state.proofs.Common.{get_or_default, take_all, drop_all, append-nil, take-append-drop, map_over_more, StackSlot, Written, with_spilled, learned}
use Rattle.stack_state.proofs.BlankLaws.{blank_mapped}
use Rattle.stack_state.proofs.facts.learn_slots.Goals as goal

pub loop-index-init : goal.loop-index-init
loop-index-init c =
    let xs = c.args.stack.now.slots in
    let n = c.known_from-index.result in
    let known = c.known_from-index.ensures in
    record {
      old_wide = known.wide;
      wide = known.wide;
      done =
          sym (take-append-drop n xs)
          ∙ ap (λ (ys : List StackSlot). ys ++ drop n xs)
          (sym (blank_mapped (with_spilled (learned c.args.fact)) n xs
          (omega (arith, known.wide, known.inside)) known.blank refl));
    }

pub loop-index-preserved : goal.loop-index-preserved
loop-index-preserved c =
    let xs = c.args.stack.now.slots in
    let ys = c.loop-index.stack.slots in
    let i = c.loop-index.index in
    let x = get_or ys i (Written 0) in
    record {
      old_wide = c.loop-index.invariant.old_wide;
      wide = ap length c.learn_slot.ensures ∙ length-set ys i _ ∙ c.loop-index.invariant.wide;
      done =
          c.learn_slot.ensures
          ∙ map_over_more (with_spilled (learned c.args.fact)) xs ys i x
          (omega (arith, c.loop-index.invariant.old_wide)) c.loop-index.invariant.done
          (get_or_default ys i (Written 0) x (omega (arith, c.loop-index.invariant.wide)));
    }

pub returns : goal.returns
returns c =
    let xs = c.args.stack.now.slots in
    let over : length xs ≤ c.loop-index.index = omega (arith, c.loop-index.invariant.old_wide) in
    c.loop-index.invariant.done ∙ (rw (take_all, drop_all, append-nil))
