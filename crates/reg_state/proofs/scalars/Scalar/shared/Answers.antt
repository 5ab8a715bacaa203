use Rattle.std.proofs.lemmas.Option.{IfSome_then}
use Rattle.reg_state.proofs.scalars.Scalar.shared.Goals as goal

pub returns-in-Some-clause-common : goal.returns-in-Some-clause-common
returns-in-Some-clause-common c = λ x h.
    let b = c.in_ok-bits.ensures.common x h.0 (c.between.ensures.contains x h.1.0.from h.1.0.to) in
    let r = c.in_ok-range.ensures.common x h.1 (c.limits_of.ensures x b) in
    c.alone.ensures.found x (b, r) (c.in-Some.ensures.only x r)

pub returns-in-Some-clause-narrower : goal.returns-in-Some-clause-narrower
returns-in-Some-clause-narrower c =
    IfSome_then c.alone.result c.alone.ensures.narrower
    (λ s within x h. let w = within x h in
    (c.in_ok-bits.ensures.left x w.0, c.in_ok-range.ensures.left x w.1))

pub returns-in-None-clause-common : goal.returns-in-None-clause-common
returns-in-None-clause-common c = λ x h.
    let b = c.in_ok-bits.ensures.common x h.0 (c.between.ensures.contains x h.1.0.from h.1.0.to) in
    (b, c.in_ok-range.ensures.common x h.1 (c.limits_of.ensures x b))

pub returns-in-None-clause-narrower : goal.returns-in-None-clause-narrower
returns-in-None-clause-narrower c =
    λ x h. (c.in_ok-bits.ensures.left x h.0, c.in_ok-range.ensures.left x h.1)
