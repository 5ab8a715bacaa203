use Rattle.control_flow.proofs.EndingMarks.{plain_step, other_step}
use Rattle.control_flow.proofs.endings.is_plain_step.Goals as goal

pub returns-then-is_plain : goal.returns-then-is_plain
returns-then-is_plain c =
    plain_step c.args.insn.now c.is_plain.result c.writes_frame_pointer.result c.if-is_plain.true
    c.is_plain.ensures c.writes_frame_pointer.ensures

pub returns-else-is_plain : goal.returns-else-is_plain
returns-else-is_plain c =
    other_step c.args.insn.now c.is_plain.result c.if-is_plain.false c.is_plain.ensures
