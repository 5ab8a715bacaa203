use Rattle.explorer.proofs.Common.{IfSome, IsCovered}
use Rattle.explorer.proofs.stored_states.StoredStates.first_covering.Given as goal

abbrev pub invariant-loop-shape : goal.invariant-loop-shape
invariant-loop-shape l = IfSome l.first (λ f. IsCovered l.self.states.items f.0 l.state f.1)
