use Rattle.ranges.proofs.Common.{ℕ, Has, HasLow, Range}
use Rattle.ranges.specs.Wides as W
use Rattle.ranges.proofs.LowLaws.{reached_weaker}
use Rattle.ranges.proofs.range.Range.within_limits.Goals as goal

pub returns-clause-members : goal.returns-clause-members
returns-clause-members c = λ x. (λ h. h.0, λ h. (h, c.low_limits.ensures.contains x h))

pub returns-clause-tight : goal.returns-clause-tight
returns-clause-tight c = λ t.
    let r : Range = record { wide = c.args.wide; low = c.low_limits.result } in
    let has : (x : ℕ) → W.Has c.args.wide x → Has r x =
    λ x h. (h, c.low_limits.ensures.contains x h) in (
      has _ t.0,
      has _ t.1,
      has _ t.2,
      has _ t.3,
      reached_weaker c.low_limits.result (W.HasHalf c.args.wide) (HasLow r)
          (λ half is. record { number = is.number; has = has is.number is.has; low = is.low })
          (c.low_limits.ensures.reached _ t.0),
    )
