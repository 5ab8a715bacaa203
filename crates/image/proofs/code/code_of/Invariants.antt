use Rattle.image.proofs.Common.{◌≡◌, ◌-◌, ◌*◌, ◌/◌, drop, length, false, code_from}
use Rattle.image.proofs.Loop.{with_front}
use Rattle.image.proofs.code.code_of.Given as goal

abbrev pub invariant-loop-slot : goal.invariant-loop-slot
invariant-loop-slot l = with_front l.slots.items
    (code_from l.maps (length l.bytes / 8 - l.slot) l.second_half l.slot
    (drop (8 * l.slot) l.bytes)) ≡ code_from l.maps (length l.bytes / 8) false 0 l.bytes
