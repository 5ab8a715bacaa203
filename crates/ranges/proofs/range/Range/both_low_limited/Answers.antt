use Rattle.ranges.proofs.range.Range.both_low_limited.Goals as goal

pub returns-in_err-first-clause-common : goal.returns-in_err-first-clause-common
returns-in_err-first-clause-common c = λ x y hx hy in_left in_right.
    absurd (c.in_err-first.ensures.common x hx in_left)

pub returns-in_err-second-clause-common : goal.returns-in_err-second-clause-common
returns-in_err-second-clause-common c = λ x y hx hy in_left in_right.
    absurd (c.in_err-second.ensures.common y hy in_right)

pub returns-clause-common : goal.returns-clause-common
returns-clause-common c = λ x y hx hy in_left in_right.
    (c.in_ok-first.ensures.common x hx in_left, c.in_ok-second.ensures.common y hy in_right)
