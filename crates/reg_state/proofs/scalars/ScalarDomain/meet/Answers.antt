use Rattle.std.proofs.lemmas.Option.{IfSome_then}
use Rattle.reg_state.proofs.scalars.ScalarDomain.meet.Goals as goal

pub returns-clause-common : goal.returns-clause-common
returns-clause-common c = λ x hx hy.
    c.tightened.ensures.common x
    (c.in_ok-bits.ensures.common x hx.0 hy.0, c.in_ok-range.ensures.common x hx.1 hy.1)

pub returns-clause-left : goal.returns-clause-left
returns-clause-left c =
    IfSome_then c.tightened.result c.tightened.ensures.narrower
    (λ m within x h. let w = within x h in
    (c.in_ok-bits.ensures.left x w.0, c.in_ok-range.ensures.left x w.1))

pub returns-clause-right : goal.returns-clause-right
returns-clause-right c =
    IfSome_then c.tightened.result c.tightened.ensures.narrower
    (λ m within x h. let w = within x h in
    (c.in_ok-bits.ensures.right x w.0, c.in_ok-range.ensures.right x w.1))
