use Rattle.reg_state.proofs.scalars.ScalarDomain.below.Goals as goal

pub returns-clause-common : goal.returns-clause-common
returns-clause-common c = λ x y hx hy h.
    let b = c.in_ok-bits.ensures.common x y hx.0 hy.0 h in
    let r = c.in_ok-ranges.ensures.common x y hx.1 hy.1 h in
    c.paired.ensures.common x y b.0 r.0 b.1 r.1
