use Rattle.kept_states.proofs.Common.{ap, states_from, pending_states}
use Rattle.kept_states.proofs.pending.PendingStates.new.Goals as goal

pub returns : goal.returns
unfolding states_from
returns c = ap (λ l. pending_states c.new-2.result l) c.new.ensures.items
