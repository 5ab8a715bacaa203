use Rattle.surveys.proofs.Common.{◌∙◌, ap, start, Counts}
use Rattle.surveys.specs.Tallies.{searched}
use Rattle.surveys.proofs.Verdicts.{says_of, sizes_kept}
use Rattle.surveys.proofs.judging.judge_image.Goals as goal

pub verify_with-found-requires : goal.verify_with-found-requires
verify_with-found-requires g c = record { untold = λ how. (start, tt) }

pub returns-in-Ok-clause-says : goal.returns-in-Ok-clause-says
returns-in-Ok-clause-says g c =
    says_of _ _ _ c.accepted.result.verdict c.accepted.result.counts
    c.in-Ok.ensures.program c.in-Ok.ensures.number c.accepted.ensures.says

pub returns-in-Ok-clause-other : goal.returns-in-Ok-clause-other
returns-in-Ok-clause-other g c =
    c.accepted.ensures.other
    (ap (λ (k : Counts). k.slot) c.counted-counts.ensures ∙ c.sizes_of-sizes.ensures.no_slot)

pub returns-in-Ok-clause-sizes : goal.returns-in-Ok-clause-sizes
returns-in-Ok-clause-sizes g c =
    sizes_kept _ c.sizes_of-sizes.result c.counted-counts.result _ c.sizes_of-sizes.ensures.sizes
    (ap (λ (k : Counts). k.slots) c.counted-counts.ensures)
    (ap (λ (k : Counts). k.maps) c.counted-counts.ensures)
    (ap (λ (k : Counts). searched k) c.accepted.ensures.counts)
