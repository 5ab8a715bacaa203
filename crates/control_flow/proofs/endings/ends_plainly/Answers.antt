use Rattle.std.proofs.Common.{sym}
use Rattle.control_flow.proofs.EndingMarks.{plain_ends, other_ends}
use Rattle.control_flow.proofs.endings.ends_plainly.Goals as goal

pub returns-then-is_plain_step : goal.returns-then-is_plain_step
returns-then-is_plain_step c =
    plain_ends c.args.image.now c.args.marks.now c.args.slot c.in-Some.insn.now
    c.is_plain_step.result c.leads_on_plainly.result c.if-is_plain_step.true c.requires.version
    (sym c.in-Some.ensures) c.requires.later c.is_plain_step.ensures c.leads_on_plainly.ensures

pub returns-else-is_plain_step : goal.returns-else-is_plain_step
returns-else-is_plain_step c =
    other_ends c.args.image.now c.args.marks.now c.args.slot c.in-Some.insn.now
    c.is_plain_step.result c.if-is_plain_step.false
    (sym c.in-Some.ensures) c.requires.later c.is_plain_step.ensures
