use Rattle.assembler.proofs.Common.{◌≡◌, drop, map, label_of, slot_in, use_of, resolved}
use Rattle.assembler.proofs.names.resolve.Given as goal

abbrev pub invariant-loop-used : goal.invariant-loop-used
invariant-loop-used l = resolved (slot_in (map label_of l.labels.entries))
    (map use_of l.uses) l.initial.insns.items
    ≡ resolved (slot_in (map label_of l.labels.entries))
    (drop l.used-index (map use_of l.uses)) l.insns.items
