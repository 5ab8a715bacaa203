use Rattle.reg_state.proofs.comparisons.related.Goals as goal

pub returns-in-Equal-false-clause-left_limits : goal.returns-in-Equal-false-clause-left_limits
returns-in-Equal-false-clause-left_limits g c =
    rw (c.in-Equal-false.is-0, c.in-Equal-false.is-1) c.unequal.ensures.left_limit

pub returns-in-Equal-false-clause-right_limits : goal.returns-in-Equal-false-clause-right_limits
returns-in-Equal-false-clause-right_limits g c =
    rw (c.in-Equal-false.is-0, c.in-Equal-false.is-1) c.unequal.ensures.right_limit

pub returns-in-NotEqual-true-clause-left_limits : goal.returns-in-NotEqual-true-clause-left_limits
returns-in-NotEqual-true-clause-left_limits g c =
    rw (c.in-NotEqual-true.is-0, c.in-NotEqual-true.is-1)
    c.unequal-in-NotEqual-true.ensures.left_limit

pub returns-in-NotEqual-true-clause-right_limits : goal.returns-in-NotEqual-true-clause-right_limits
returns-in-NotEqual-true-clause-right_limits g c =
    rw (c.in-NotEqual-true.is-0, c.in-NotEqual-true.is-1)
    c.unequal-in-NotEqual-true.ensures.right_limit
