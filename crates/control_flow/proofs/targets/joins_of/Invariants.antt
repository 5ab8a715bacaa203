use Rattle.control_flow.proofs.Common.{length, jump_to}
use Rattle.control_flow.proofs.MarkLemmas.{MarksBelow}
use Rattle.control_flow.proofs.targets.joins_of.Given as goal

abbrev pub invariant-loop-slot : goal.invariant-loop-slot
invariant-loop-slot l =
    MarksBelow (λ k. ⊥) (jump_to l.image) (length l.image.insns) l.slot l.marks.items
