use Rattle.std.proofs.Common.{subst, sym}
use Rattle.ranges.specs.Lows.{Has}
use Rattle.ranges.proofs.range.Range.low_equal.Goals as goal

pub returns-clause-common : goal.returns-clause-common
returns-clause-common c = λ x y hx hy same.
    c.both_low_limited.ensures.common x y hx hy
    (subst (Has c.args.other.low) (sym same) hy.1) (subst (Has c.args.self.low) same hx.1)
