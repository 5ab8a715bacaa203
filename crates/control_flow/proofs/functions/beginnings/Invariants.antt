use Rattle.control_flow.proofs.Common.{◌≡◌, length, call_to}
use Rattle.control_flow.proofs.MarkLemmas.{MarksBelow}
use Rattle.control_flow.proofs.functions.beginnings.Given as goal

abbrev pub invariant-loop-slot : goal.invariant-loop-slot
invariant-loop-slot l =
    MarksBelow (λ k. k ≡ 0) (call_to l.image) (length l.image.insns) l.slot l.marks.items
