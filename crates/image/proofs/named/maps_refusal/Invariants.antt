use Rattle.image.proofs.Common.{◌≡◌, drop, maps_refusal}
use Rattle.image.proofs.named.maps_refusal.Given as goal

abbrev pub invariant-loop-slot : goal.invariant-loop-slot
invariant-loop-slot l =
    maps_refusal l.maps l.slot (drop l.slot l.code) ≡ maps_refusal l.maps 0 l.code
