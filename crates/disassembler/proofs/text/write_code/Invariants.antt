use Rattle.disassembler.proofs.Common.{take, flat_map, Appends, slot_text}
use Rattle.disassembler.proofs.text.write_code.Given as goal

abbrev pub invariant-loop-slot : goal.invariant-loop-slot
invariant-loop-slot g l = Appends (g.W.Write.contents l.initial.out) (g.W.Write.contents l.out)
    (flat_map slot_text (take l.slot-index l.slots))
