use Rattle.explanations.proofs.Common.{◌≡◌, ◌∙◌, suc, ◌+◌, ◌-◌, arith, sym, ap, stack_slots_of, slot_at, marks_of, first_open}
use Rattle.explanations.proofs.Texts.{first_open-next}
use Rattle.explanations.proofs.slots.first_open.Goals as goal

pub loop-at-preserved : goal.loop-at-preserved
loop-at-preserved c =
    let slots = stack_slots_of c.args.state.now c.args.frame in
    let end = c.args.slot + c.args.count in
    let written : marks_of (slot_at slots c.loop-at.at) ≡ 255 =
    ap marks_of (sym c.slot_of.ensures)
    ∙ (sym c.marks.ensures ∙ omega (arith, c.if-marks.false)) in
    let left = end - (c.loop-at.at + 1) in
    let one_more : end - c.loop-at.at ≡ suc left = omega (arith, c.loop-at-test.true) in
    sym (first_open-next slots c.loop-at.at left written)
    ∙ (ap (λ n. first_open slots c.loop-at.at n) (sym one_more) ∙ c.loop-at.invariant)
