use Rattle.std.proofs.lemmas.Option.{IfSome_then}
use Rattle.reg_state.proofs.scalars.ScalarDomain.disjoint.Goals as goal

pub returns-clause-common : goal.returns-clause-common
returns-clause-common c = λ x y hx hy h.
    let b = c.in_ok-bits.ensures.common x y hx.0 hy.0 h in
    let r = c.in_ok-ranges.ensures.common x y hx.1 hy.1 h in
    c.paired.ensures.common x y b.0 r.0 b.1 r.1

pub returns-clause-left : goal.returns-clause-left
returns-clause-left c =
    IfSome_then c.paired.result c.paired.ensures.left
    (λ p within x h. let w = within x h in
    (c.in_ok-bits.ensures.left x w.0, c.in_ok-ranges.ensures.left x w.1))

pub returns-clause-right : goal.returns-clause-right
returns-clause-right c =
    IfSome_then c.paired.result c.paired.ensures.right
    (λ p within y h. let w = within y h in
    (c.in_ok-bits.ensures.right y w.0, c.in_ok-ranges.ensures.right y w.1))

pub returns-clause-left_only : goal.returns-clause-left_only
returns-clause-left_only c =
    λ full. IfSome_then c.paired.result c.paired.ensures.left
    (λ p within x h. c.in_ok-bits.ensures.left_only full x (within x h).0)

pub returns-clause-right_only : goal.returns-clause-right_only
returns-clause-right_only c =
    λ full. IfSome_then c.paired.result c.paired.ensures.right
    (λ p within y h. c.in_ok-bits.ensures.right_only full y (within y h).0)
