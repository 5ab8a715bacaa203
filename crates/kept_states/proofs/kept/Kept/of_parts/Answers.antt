use Rattle.kept_states.proofs.Common.{◌≡◌, ◌∙◌, refl, subst, IfOk, State, ProvedBytes, with_proved}
use Rattle.kept_states.proofs.ProvedBytesLaws.{with_nothing}
use Rattle.kept_states.proofs.kept.Kept.of_parts.Goals as goal

pub returns : goal.returns
returns c =
    let none : ProvedBytes = record { identity = 0; bytes = 0 } in
    let s = c.args.state.now in
    subst (λ (t : State). IfOk c.of_rest.result (λ kept. kept ≡ t))
    (with_nothing none (with_proved none s) refl ∙ with_nothing none s refl) c.of_rest.ensures
