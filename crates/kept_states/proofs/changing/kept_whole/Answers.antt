use Rattle.kept_states.proofs.Common.{◌∷◌, ap, states_from}
use Rattle.kept_states.proofs.changing.kept_whole.Goals as goal

pub returns : goal.returns
unfolding states_from
returns c = λ any states parts frame.
    ap (λ s. s ∷ states_from any states parts frame) c.in_ok-state.ensures.ok
