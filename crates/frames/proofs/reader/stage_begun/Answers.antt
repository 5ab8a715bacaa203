use Rattle.frames.proofs.Common.{◌≢◌, ℕ, Bool, List, Option, refl, rules, OpensStream}
use Rattle.frames.specs.declared.reader.Stage.{Stage}
use Rattle.frames.specs.declared.reader.Stage.TheVariants as stage
use Rattle.frames.specs.Stages.{position_of}
use Rattle.frames.proofs.reader.stage_begun.Goals as goal

-- a reader that has begun reads nothing
stays_open : (may_fail : Bool) (s : Stage) (left : Option (List ℕ)) → s ≢ stage.Fresh
    → OpensStream may_fail (position_of s) left left (position_of s)
stays_open may_fail stage.Fresh left begun = absurd (begun refl)
stays_open may_fail (stage.At version number offset) left begun = (refl, refl)
stays_open may_fail (stage.Done version stop) left begun = (refl, refl)

pub returns-in-Err-clause-opens : goal.returns-in-Err-clause-opens
returns-in-Err-clause-opens g c = search rules

pub returns-in_default-clause-opens : goal.returns-in_default-clause-opens
returns-in_default-clause-opens g c = stays_open _ c.args.stage _ c.in_default.not-Fresh

pub returns-in_default-clause-again : goal.returns-in_default-clause-again
returns-in_default-clause-again g c = λ _. refl
