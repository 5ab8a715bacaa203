use Rattle.ranges.proofs.Common.{◌≡◌, arith, rules, ints, Lsh}
use Rattle.ranges.proofs.KeepsWeaker.{kept_limits, kept_signed_limits, kept_wide_limits, kept_wide_signed_limits}
use Rattle.ranges.proofs.RangeLaws.{constant_tight}
use Rattle.ranges.proofs.ConstantLaws.{OfConstants, constants_contain, constants_fit, constants_kept, constants_kept_signed, constants_kept_low, constants_kept_low_signed, constants_raised, constants_raised_signed}
use Rattle.ranges.proofs.range.Range.alu.Goals as goal

-- ---- constants

pub returns-then-b : goal.returns-then-b
returns-then-b c =
    let given : OfConstants c.args.op c.args.width c.args.a c.args.b c.constant.result
    c.compute.result = search rules in
    let shift = λ (op : c.args.op ≡ Lsh). (let g : OfConstants Lsh c.args.width c.args.a c.args.b
    c.constant.result c.compute.result = rw op at given in g) in
    record {
      contains = constants_contain given;
      exact = search rules;
      fits = constants_fit given;
      limits = constants_kept given;
      signed = constants_kept_signed given;
      low_limits = constants_kept_low given;
      low_signed = constants_kept_low_signed given;
      raised = λ x y hx hy op full one. constants_raised (shift op) x y hx hy full;
      raised_signed = λ x y hx hy op full one. constants_raised_signed (shift op) x y hx hy full;
      tight = λ x y hx hy.
          constant_tight c.constant.result c.compute.result c.constant.ensures.constant
          c.constant.ensures.contains;
    }

-- ---- other numbers

pub returns : goal.returns
returns c =
    let a = c.args.a in
    let b = c.args.b in
    let wide = c.wide_alu-wide in
    let low = c.low_alu-low in
    let r = c.settled.result in
    let e = c.settled.ensures.enclosed in
    record {
      contains = λ x y hx hy.
          c.settled.ensures.contains _ (wide.ensures.contains x y hx hy, low.ensures.contains x y hx hy);
      exact = search rules;
      fits = search rules;
      limits = λ fa fb.
          kept_wide_limits c.args.op c.args.width a.wide b.wide wide.result r.wide e.0
          (wide.ensures.limits fa fb);
      signed = λ x y hx hy full.
          kept_wide_signed_limits c.args.op a.wide b.wide wide.result r.wide e.0
          (wide.ensures.signed x y hx hy full);
      low_limits = λ x y hx hy reads.
          kept_limits c.args.op a.low b.low low.result r.low e.1
          (low.ensures.limits x y hx hy reads);
      low_signed = λ x y hx hy reads.
          kept_signed_limits c.args.op a.low b.low low.result r.low e.1
          (low.ensures.signed x y hx hy reads);
      raised = search rules;
      raised_signed = λ x y hx hy op full one is32.
          (let s = wide.ensures.raised_signed x y hx hy op full one is32 in
          (omega (arith, ints, s.0, e.0.2), omega (arith, ints, s.1, e.0.3)));
      tight = λ x y hx hy.
          c.settled.ensures.tight _ (wide.ensures.contains x y hx hy, low.ensures.contains x y hx hy);
    }
