use Rattle.surveys.proofs.Common.{◌∙◌, ap, Counts}
use Rattle.surveys.proofs.Verdicts.{says_bound}
use Rattle.surveys.proofs.judging.accepted.Goals as goal

pub returns-clause-says : goal.returns-clause-says
returns-clause-says c =
    λ h. says_bound _ _ c.bounded-counts.result
    (ap (λ (k : Counts). k.bound) c.bounded-counts.ensures.bound) h c.bounded-counts.ensures.ends

pub returns-clause-other : goal.returns-clause-other
returns-clause-other c = λ h. ap (λ (k : Counts). k.slot) c.bounded-counts.ensures.bound ∙ h

pub returns-clause-counts : goal.returns-clause-counts
returns-clause-counts c = c.bounded-counts.ensures.bound
