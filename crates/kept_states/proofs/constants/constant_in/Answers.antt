use Rattle.kept_states.proofs.Common.{◌∙◌, ap, Kind, InRegister}
use Rattle.kept_states.proofs.constants.constant_in.Goals as goal

pub returns : goal.returns
returns c =
    c.in-InRegister.is
    ∙ ap (λ (k : Kind). InRegister c.in-InRegister.number k) c.in_ok-value.ensures
