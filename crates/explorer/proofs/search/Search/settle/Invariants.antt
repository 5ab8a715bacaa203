use Rattle.explorer.proofs.Common.{◌≡◌, ◌+◌, length, AfterMove, InEach, IsToTell}
use Rattle.explorer.proofs.Telling.{weight}
use Rattle.explorer.proofs.search.Search.settle.Given as goal

abbrev pub invariant-moves : goal.invariant-moves
invariant-moves g l = record {
  moves : AfterMove l.flow l.self l.made;
  untold : InEach l.initial.self.kept (λ how. IsToTell how l.flow
      (g.L.Listener.follows l.listener how l.flow) l.self.path.items l.self.current l.made);
  kept : l.self.kept ≡ l.initial.self.kept;
  explored : l.self.finished + length l.self.path.items
      ≡ l.initial.self.finished + length l.initial.self.path.items;
}

abbrev pub decreases-moves : goal.decreases-moves
decreases-moves g l = weight l.self.path.items
