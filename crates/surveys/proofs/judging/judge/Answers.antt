use Rattle.surveys.proofs.Verdicts.{never_malformed, says_at, says_malformed, says_nothing, says_sizes, says_no_sizes}
use Rattle.surveys.proofs.judging.judge.Goals as goal

pub returns-in-Ok-clause-says : goal.returns-in-Ok-clause-says
returns-in-Ok-clause-says g c =
    λ p fits bytes. says_at p _ c.judge_image.result.verdict c.judge_image.result.counts
    (c.in-Ok.ensures.only p fits bytes) c.judge_image.ensures.says

pub returns-in-Ok-clause-malformed : goal.returns-in-Ok-clause-malformed
returns-in-Ok-clause-malformed g c =
    λ wrong refused. never_malformed _ wrong _ c.judge_image.result.counts c.in-Ok.ensures.refused
    refused

pub returns-in-Ok-clause-sizes : goal.returns-in-Ok-clause-sizes
returns-in-Ok-clause-sizes g c =
    λ p fits bytes. says_sizes p _ c.judge_image.result.verdict c.judge_image.result.counts
    (c.in-Ok.ensures.only p fits bytes) c.judge_image.ensures.sizes

pub returns-in-Err-clause-says : goal.returns-in-Err-clause-says
returns-in-Err-clause-says g c =
    λ p fits bytes. says_nothing p c.malformed.result.verdict c.malformed.result.counts
    (c.malformed.ensures.memory (c.in-Err.ensures.only p fits bytes))

pub returns-in-Err-clause-malformed : goal.returns-in-Err-clause-malformed
returns-in-Err-clause-malformed g c =
    λ wrong refused. says_malformed _ _ wrong _ c.malformed.result.counts
    c.malformed.ensures.memory c.malformed.ensures.says c.in-Err.ensures.refused refused

pub returns-in-Err-clause-sizes : goal.returns-in-Err-clause-sizes
returns-in-Err-clause-sizes g c =
    λ p fits bytes. says_no_sizes p c.malformed.result.verdict c.malformed.result.counts
    (c.malformed.ensures.memory (c.in-Err.ensures.only p fits bytes))
