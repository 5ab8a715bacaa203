use Rattle.walks.proofs.Common.{arith, iff_false}
use Rattle.walks.proofs.ForgettingLoops.{slots_left_blank, slots_left_live, slots_left_dead, slots_left_full, slots_left_empty}
use Rattle.walks.proofs.forgetting.forget_slots.Goals as goal
use Rattle.walks.proofs.forgetting.forget_slots.Goals.{then-not-has, else-not-has}

pub loop-index-init : goal.loop-index-init
loop-index-init c =
    slots_left_blank c.args.flow.now c.args.slot c.args.known_from c.live_slots-live.result
    c.args.stack.now.slots c.live_slots-live.ensures c.requires

-- the next one is dead or live
pub loop-index-preserved : goal.loop-index-preserved
loop-index-preserved c =
    let p = c.args.flow.now in
    let n = c.loop-index.index in
    elim c.if-not-has.branch [
      | then-not-has w ↦
          rw (w.stack-is, w.mark.ensures.set)
          (slots_left_dead p c.args.slot n c.args.stack.now.slots c.loop-index.stack.slots
          (omega arith)
          (λ live. iff_false c.has.ensures w.if-not-has.true ((c.live_slots-live.ensures n).1 live))
          c.loop-index.invariant)
      | else-not-has w ↦
          rw w.stack-is
          (slots_left_live p c.args.slot n c.args.stack.now.slots c.loop-index.stack.slots
          ((c.live_slots-live.ensures n).0 (c.has.ensures.0 w.if-not-has.false))
          c.loop-index.invariant)
    ]

pub returns-then-is_full : goal.returns-then-is_full
returns-then-is_full c =
    slots_left_full c.args.flow.now c.args.slot c.args.stack.now.slots c.requires.wide
    (λ j below. (c.live_slots-live.ensures j).0 (c.is_full.ensures.all c.if-is_full.true j below))

pub returns-then-is_empty : goal.returns-then-is_empty
returns-then-is_empty c =
    rw c.clear.ensures
    (slots_left_empty c.args.flow.now c.args.slot c.args.stack.now.slots
    (λ j live. c.is_empty.ensures.none c.if-is_empty.true j ((c.live_slots-live.ensures j).1 live)))
