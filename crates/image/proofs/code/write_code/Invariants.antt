use Rattle.image.proofs.Common.{take, Appends, code_bytes}
use Rattle.image.proofs.code.write_code.Given as goal

abbrev pub invariant-loop-slot : goal.invariant-loop-slot
invariant-loop-slot g l = Appends (g.W.Write.contents l.initial.writer)
    (g.W.Write.contents l.writer) (code_bytes (take l.slot-index l.slots))
