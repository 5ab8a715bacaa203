use Rattle.std.proofs.Common.{sym, subst}
use Rattle.control_flow.proofs.EndingMarks.{MarksLast, last_none}
use Rattle.control_flow.proofs.endings.endings_of.Goals as goal

pub loop-before-init : goal.loop-before-init
loop-before-init c =
    let new = c.in_ok-marks.ensures.items_if_clones_equal (λ y e. e) in
    subst (MarksLast c.args.image.now 0) (sym new)
    (last_none c.args.image.now c.slots.result c.slots.ensures.count)
