use Rattle.walks.proofs.Common.{arith, refl, inr, iff_false, Written, HasSlot}
use Rattle.walks.proofs.NumberLoops.{in_blank, in_left, in_forgotten}
use Rattle.walks.proofs.numbers.forget_slots_of.Goals as goal
use Rattle.walks.proofs.numbers.forget_slots_of.Goals.{then-has, else-has}

pub loop-index-init : goal.loop-index-init
loop-index-init c =
    in_blank c.args.chosen c.known_from-index.result c.args.stack.now.slots
    c.known_from-index.ensures

-- the next one is chosen or left
pub loop-index-preserved : goal.loop-index-preserved
loop-index-preserved c =
    let Chosen = HasSlot c.args.chosen in
    let n = c.loop-index.index in
    let ys = c.loop-index.stack.slots in
    elim c.if-has.branch [
      | then-has w ↦
          rw (w.stack-is, w.forget_spilled.ensures.others)
          (in_forgotten Chosen n n c.args.stack.now.slots ys (Written 0) _ refl (omega arith)
          (c.has.ensures.0 w.if-has.true) w.forget_spilled.ensures.forgets c.loop-index.invariant)
      | else-has w ↦
          rw w.stack-is
          (in_left Chosen n c.args.stack.now.slots ys
          (inr (λ has. iff_false c.has.ensures w.if-has.false has, refl)) c.loop-index.invariant)
    ]
