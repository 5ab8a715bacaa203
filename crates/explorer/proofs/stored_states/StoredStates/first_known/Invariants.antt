use Rattle.explorer.proofs.Common.{IfSome, IsCovered}
use Rattle.explorer.proofs.stored_states.StoredStates.first_known.Given as goal

abbrev pub invariant-loop-scanned : goal.invariant-loop-scanned
invariant-loop-scanned l = IfSome l.found (λ f. IsCovered l.self.states.items f.0 l.state f.1)
