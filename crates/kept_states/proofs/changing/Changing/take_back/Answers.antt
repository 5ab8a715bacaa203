use Rattle.kept_states.proofs.Common.{◌∙◌, ◌∷◌, sym, ap, states_from, states_below}
use Rattle.kept_states.proofs.changing.Changing.take_back.Goals as goal

pub returns-in-Whole : goal.returns-in-Whole
unfolding states_from
returns-in-Whole c = λ states.
    let old = c.args.self.now in
    ap (λ p. states_below old (p ∷ states)) c.in-Whole.is
    ∙ ap (λ s. s ∷ states_below old states) (sym c.into_inner.ensures)
