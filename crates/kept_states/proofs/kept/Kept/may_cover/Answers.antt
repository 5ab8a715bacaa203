use Rattle.kept_states.proofs.Common.{◌∙◌, ap, sym, arith, State, with_proved}
use Rattle.kept_states.proofs.ProvedBytesLaws.{with_nothing}
use Rattle.kept_states.proofs.kept.Kept.may_cover.Goals as goal

pub returns : goal.returns
returns c =
    let kept = c.self.inside in
    let base : State = record {
      slot = kept.slot;
      callers = record { items = kept.callers.value.items };
      innermost = kept.innermost;
    } in
    λ same.
    c.may_cover.ensures
    (ap (λ (s : State). s.innermost)
    (sym (with_nothing kept.proved (with_proved kept.also_proved base) (omega arith)
    ∙ with_nothing kept.also_proved base (omega arith))
    ∙ c.self.view_is ∙ same))
