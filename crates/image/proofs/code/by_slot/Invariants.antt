use Rattle.image.proofs.Common.{◌≡◌, take, false, slots, IsCode}
use Rattle.image.proofs.code.by_slot.Given as goal

abbrev pub invariant-loop-insn : goal.invariant-loop-insn
invariant-loop-insn l = record {
  all : l.code.items
      ≡ slots (take l.insn-index l.insns);
  code : IsCode false l.code.items;
}
