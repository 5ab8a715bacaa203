use Rattle.std.proofs.Common.{refl}
use Rattle.ranges.proofs.EnclosesLaws.{enclosed_low}
use Rattle.ranges.proofs.range.Range.covers.Goals as goal

pub returns-then-covers-clause-yes : goal.returns-then-covers-clause-yes
returns-then-covers-clause-yes c = λ yes x h. (
  (c.if-covers.ensures.yes refl x h.0),
  enclosed_low c.args.self.low c.args.other.low _ (c.covers-then-covers.ensures.0 yes) h.1,
)
