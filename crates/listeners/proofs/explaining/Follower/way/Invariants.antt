use Rattle.listeners.proofs.Common.{List, State, Precision, HasFollowed}
use Rattle.listeners.proofs.Following.{LedAt}
use Rattle.listeners.proofs.explaining.Follower.way.Given as goal

-- the last jumps lead to the state before that of the index, along any path that was followed
abbrev pub invariant-loop-index : goal.invariant-loop-index
invariant-loop-index l =
    (how : Precision) (path : List State) (last : State)
    → HasFollowed how l.self.image.now l.self.slots.items l.self.slot l.self.turns
    l.self.image.now path last → LedAt how l.self.image.now path l.index l.way.items
