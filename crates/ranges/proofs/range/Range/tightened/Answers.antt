use Rattle.ranges.proofs.Common.{sym, subst, Has}
use Rattle.ranges.proofs.EnclosesLaws.{constant_enclosed}
use Rattle.ranges.proofs.RangeLaws.{constant_tight}
use Rattle.ranges.proofs.range.Range.tightened.Goals as goal

pub returns-then-covers-clause-common : goal.returns-then-covers-clause-common
returns-then-covers-clause-common c = λ x h.
    subst (Has c.constant-alone.result) (sym (c.in-Some.ensures.only x h))
    c.constant-alone.ensures.contains

pub returns-then-covers-clause-enclosed : goal.returns-then-covers-clause-enclosed
returns-then-covers-clause-enclosed c = c.covers.ensures.limits.0 c.if-covers.true

pub returns-then-covers-clause-tight : goal.returns-then-covers-clause-tight
returns-then-covers-clause-tight c =
    constant_tight c.constant-alone.result c.in-Some.number c.constant-alone.ensures.constant
    c.constant-alone.ensures.contains

pub returns-else-covers-clause-common : goal.returns-else-covers-clause-common
returns-else-covers-clause-common c = λ x h.
    let yes = c.covers.ensures.limits.1
    (constant_enclosed c.args.self c.constant-alone.result c.in-Some.number
    c.constant-alone.ensures.constant (subst (Has c.args.self) (c.in-Some.ensures.only x h) h)) in
    let no = c.if-covers.false in
    absurd cc
