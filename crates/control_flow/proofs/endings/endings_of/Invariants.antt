use Rattle.control_flow.proofs.EndingMarks.{MarksLast}
use Rattle.control_flow.proofs.endings.endings_of.Given as goal

abbrev pub invariant-loop-before : goal.invariant-loop-before
invariant-loop-before l = MarksLast l.image l.before l.marks.items
