use Rattle.reg_state.proofs.range_domain.same.Goals as goal

pub returns-in_err-both-clause-common : goal.returns-in_err-both-clause-common
returns-in_err-both-clause-common c = λ x a b. absurd (c.in_err-both.ensures.common x a b)

pub returns-clause-common : goal.returns-clause-common
returns-clause-common c =
    λ x a b. (c.in_ok-both.ensures.common x a b, c.in_ok-both.ensures.common x a b)

pub returns-clause-left : goal.returns-clause-left
returns-clause-left c = λ x h. (c.in_ok-both.ensures.left x h, c.in_ok-both.ensures.right x h)

pub returns-clause-right : goal.returns-clause-right
returns-clause-right c = λ x h. (c.in_ok-both.ensures.left x h, c.in_ok-both.ensures.right x h)
