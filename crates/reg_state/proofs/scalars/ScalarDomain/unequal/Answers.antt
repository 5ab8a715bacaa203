use Rattle.std.proofs.lemmas.Option.{IfSome_then}
use Rattle.reg_state.proofs.scalars.ScalarDomain.unequal.Goals as goal

pub returns-clause-common : goal.returns-clause-common
returns-clause-common c = λ x y hx hy h.
    let b = c.in_ok-bits.ensures.common x y hx.0 hy.0 h in
    let r = c.in_ok-ranges.ensures.common x y hx.1 hy.1 h in
    c.paired.ensures.common x y b.0 r.0 b.1 r.1

pub returns-clause-left_limit : goal.returns-clause-left_limit
returns-clause-left_limit c =
    IfSome_then c.paired.result c.paired.ensures.left
    (λ p within x h. c.in_ok-ranges.ensures.left_limit x (within x h).1)

pub returns-clause-right_limit : goal.returns-clause-right_limit
returns-clause-right_limit c =
    IfSome_then c.paired.result c.paired.ensures.right
    (λ p within y h. c.in_ok-ranges.ensures.right_limit y (within y h).1)
