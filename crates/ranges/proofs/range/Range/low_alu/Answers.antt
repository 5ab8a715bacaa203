use Rattle.ranges.proofs.Common.{◌%◌, ◌<◌, ◌^◌, subst, sym, arith, alu}
use Rattle.ranges.specs.Lows as L
use Rattle.ranges.proofs.LowResults.{low_result}
use Rattle.ranges.proofs.range.Range.low_alu.Goals as goal

pub returns-then-reads_low-clause-contains : goal.returns-then-reads_low-clause-contains
returns-then-reads_low-clause-contains c = λ x y hx hy.
    let reads = c.reads_low.ensures.0 c.if-reads_low.true in
    subst (L.Has c.alu.result)
    (sym (low_result c.args.op c.args.width x y c.args.b.wide hx.0.below hy.0 reads))
    (c.alu.ensures.contains _ _ hx.1 hy.1)

pub returns-else-reads_low-clause-contains : goal.returns-else-reads_low-clause-contains
returns-else-reads_low-clause-contains c = λ x y hx hy.
    let half : alu c.args.op c.args.width x y % 2 ^ 32 < 2 ^ 32 = omega arith in
    (c.any.ensures.members _).1 half
