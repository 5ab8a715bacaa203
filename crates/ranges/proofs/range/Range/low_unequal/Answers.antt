use Rattle.std.proofs.Common.{sym}
use Rattle.ranges.proofs.range.Range.low_unequal.Goals as goal

pub returns-in_err-left-clause-common : goal.returns-in_err-left-clause-common
returns-in_err-left-clause-common c =
    λ x y hx hy differs. absurd (c.in_err-left.ensures.common x y hx hy differs)

pub returns-in_err-right-clause-common : goal.returns-in_err-right-clause-common
returns-in_err-right-clause-common c = λ x y hx hy differs.
    absurd (c.in_err-right.ensures.common y x hy hx (λ same. differs (sym same)))

pub returns-clause-common : goal.returns-clause-common
returns-clause-common c = λ x y hx hy differs. (
  c.in_ok-left.ensures.common x y hx hy differs,
  c.in_ok-right.ensures.common y x hy hx (λ same. differs (sym same)),
)

pub returns-clause-tight : goal.returns-clause-tight
returns-clause-tight c =
    λ left right. (c.in_ok-left.ensures.tight left, c.in_ok-right.ensures.tight right)
