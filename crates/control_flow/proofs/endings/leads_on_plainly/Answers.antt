use Rattle.control_flow.proofs.EndingMarks.{both_on, not_on}
use Rattle.control_flow.proofs.endings.leads_on_plainly.Goals as goal

pub returns-then-goes_on_plainly : goal.returns-then-goes_on_plainly
returns-then-goes_on_plainly c =
    both_on c.args.image.now c.args.marks.now c.args.slot c.goes_on_plainly.result
    c.goes_on_plainly-then-goes_on_plainly.result c.fall_target.result c.jump_target.result
    c.if-goes_on_plainly.true c.fall_target.ensures c.goes_on_plainly.ensures c.jump_target.ensures
    c.goes_on_plainly-then-goes_on_plainly.ensures

pub returns-else-goes_on_plainly : goal.returns-else-goes_on_plainly
returns-else-goes_on_plainly c =
    not_on c.args.image.now c.args.marks.now c.args.slot c.goes_on_plainly.result
    c.fall_target.result c.if-goes_on_plainly.false c.fall_target.ensures c.goes_on_plainly.ensures
