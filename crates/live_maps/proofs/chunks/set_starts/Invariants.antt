use Rattle.live_maps.proofs.Common.{◌≡◌, length, Begin, lists_of}
use Rattle.live_maps.proofs.chunks.set_starts.Given as goal

abbrev pub invariant-loop-c : goal.invariant-loop-c
invariant-loop-c l = record {
  long : length l.starts ≡ length l.chunks.items;
  begin : Begin l.c (lists_of l.chunks.items) l.starts;
}
