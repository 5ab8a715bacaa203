use Rattle.live_maps.proofs.ReorderLaws.{AreSame}
use Rattle.live_maps.proofs.reordering.list_anew.Given as goal

abbrev pub invariant-loop-place : goal.invariant-loop-place
invariant-loop-place l = AreSame l.place l.since
