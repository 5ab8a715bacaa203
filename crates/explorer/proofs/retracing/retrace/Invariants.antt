use Rattle.explorer.proofs.Common.{List, ◌∷◌, State, Coarse}
use Rattle.explorer.proofs.retracing.retrace.Given as goal

-- the listener was called for a path to the walker's state
abbrev pub invariant-loop-index : goal.invariant-loop-index
invariant-loop-index g l =
    (before : List State) × g.L.Listener.follows l.listener Coarse l.image
    (l.walker.state ∷ before) l.walker.state
