use Rattle.control_flow.proofs.EndingMarks.{on_marked, on_unmarked}
use Rattle.control_flow.proofs.endings.goes_on_plainly.Goals as goal

pub returns-then-is_marked : goal.returns-then-is_marked
returns-then-is_marked c =
    on_marked c.args.marks.now c.args.slot c.in-Some.to c.args.to c.is_marked.result c.in-Some.is
    c.if-is_marked.true c.is_marked.ensures

pub returns-else-is_marked : goal.returns-else-is_marked
returns-else-is_marked c =
    on_unmarked c.args.marks.now c.args.slot c.in-Some.to c.args.to c.is_marked.result c.in-Some.is
    c.if-is_marked.false c.is_marked.ensures
