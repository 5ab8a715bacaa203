use Rattle.ranges.proofs.Common.{subst, arith, Low32, alu, alu_below, low_same}
use Rattle.ranges.specs.Wides as W
use Rattle.ranges.specs.Lows.{Has, IsBetween}
use Rattle.ranges.proofs.KeepsWeaker.{keeps_weaker}
use Rattle.ranges.proofs.low.Low.unsigned_alu.Goals as goal

pub returns-clause-contains : goal.returns-clause-contains
returns-clause-contains c = λ e f he hf.
    subst (Has c.low_limits.result)
    (low_same Low32 (alu c.args.op Low32 e f) (alu_below c.args.op Low32 e f))
    (c.low_limits.ensures.contains _
    (c.alu.ensures.contains e f (c.zero_extended.ensures.contains e he)
    (c.zero_extended-2.ensures.contains f hf)))

pub returns-clause-limits : goal.returns-clause-limits
returns-clause-limits c = λ e f he hf.
    let a = c.zero_extended.ensures.limits in
    let b = c.zero_extended-2.ensures.limits in
    let wide = rw (a.0, a.1, b.0, b.1) at (c.alu.ensures.limits (omega arith) (omega arith)) in
    let has = c.alu.ensures.contains e f (c.zero_extended.ensures.contains e he)
    (c.zero_extended-2.ensures.contains f hf) in
    let small = c.low_limits.ensures.small _ has c.alu.ensures.fits in
    keeps_weaker c.args.op Low32 c.args.a.least c.args.a.greatest c.args.b.least c.args.b.greatest
    (W.IsBetween c.alu.result) (IsBetween c.low_limits.result)
    (λ l g h. (omega (arith, h.0, small.0), omega (arith, h.1, small.1))) wide
