use Rattle.explorer.proofs.Common.{◌≡◌, ◌+◌, length, None, IsTrue, IsNext, InEach, FollowsNext}
use Rattle.explorer.proofs.search.Search.explore_all.Given as goal

abbrev pub invariant-loop-explored : goal.invariant-loop-explored
invariant-loop-explored g l = record {
  goes : IsNext l.flow l.self l.next_move;
  told : InEach l.self.kept (λ how. FollowsNext how l.flow
      (g.L.Listener.follows l.listener how l.flow) l.self.path.items l.self.current l.next_move);
  exact : IsTrue l.is_exact → l.self.kept ≡ None;
  explored : l.self.finished + length l.self.path.items ≡ l.explored;
}
