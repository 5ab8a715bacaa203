use Rattle.coverage.proofs.Common.{◌≡◌, ℕ, ◌<◌, List, length, All, sym, ap, ◌∙◌, subst, length-map, CountsExactly, is_number, steps_by, ends_in, steps_in}
use Rattle.coverage.proofs.RunsLaws.{steps_in-below}
use Rattle.coverage.proofs.HitsLaws.{steps_counted}
use Rattle.coverage.proofs.stream_hits.StreamHits.step_numbers.Goals as goal

pub returns : goal.returns
returns c = λ p limit contents frames so.
    let numbers = steps_in p limit contents frames in
    c.step_numbers.ensures numbers
    (subst (CountsExactly is_number numbers) (sym c.as_slice.ensures.value)
    (steps_counted limit (ends_in p limit contents frames) _ so.taken))
    (subst (λ (n : ℕ). All (λ m. m < n) numbers)
    (sym so.taken_len ∙ ap (λ (l : List ℕ). length l) (sym c.as_slice.ensures.value))
    (steps_in-below p limit contents frames))
    (so.ran ∙ sym (length-map (ends_in p limit contents frames) (steps_by limit)))
