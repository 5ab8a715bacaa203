use Rattle.kept_states.proofs.Common.{◌≡◌, ◌∙◌, refl, rules, State, ProvedBytes, with_proved}
use Rattle.kept_states.proofs.ProvedBytesLaws.{with_nothing}
use Rattle.kept_states.proofs.kept.Kept.with_callers.Goals as goal

pub returns : goal.returns
returns c =
    let none : ProvedBytes = record { identity = 0; bytes = 0 } in
    let s : State = record {
      slot = c.in-Ok.slot;
      callers = record { items = c.args.callers.value.items };
      innermost = c.in_ok-innermost.innermost;
    } in
    let same : s
    ≡ record c.args.state.now { callers = record { items = c.args.callers.value.items } } =
    search rules in
    with_nothing none (with_proved none s) refl ∙ (with_nothing none s refl ∙ same)
