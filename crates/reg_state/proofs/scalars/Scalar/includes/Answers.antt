use Rattle.ranges.proofs.EnclosesLaws.{constant_enclosed}
use Rattle.reg_state.proofs.scalars.Scalar.includes.Goals as goal

pub returns-then-covers : goal.returns-then-covers
returns-then-covers c = (
  λ yes. (
    c.covers.ensures.inclusion.0 c.if-covers.true c.args.number c.constant.ensures.contains,
    c.covers-then-covers.ensures.yes yes c.args.number c.constant-then-covers.ensures.contains,
  ),
  λ h. c.covers-then-covers.ensures.limits.1 (
      constant_enclosed c.args.self.range c.constant-then-covers.result c.args.number
      c.constant-then-covers.ensures.constant h.1
      ),
)
