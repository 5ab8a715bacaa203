use Rattle.ranges.proofs.Common.{ℕ, ◌<◌, ◌%◌, ◌^◌, arith, mod-eq_of_lt, Width, Low32, Full64, width_bits, Has, HasLow, Range}
use Rattle.ranges.specs.Wides as W
use Rattle.ranges.specs.Lows as L
use Rattle.ranges.proofs.LowLaws.{reached_weaker}
use Rattle.ranges.proofs.range.Range.any.Goals as goal

pub returns-clause-members : goal.returns-clause-members
returns-clause-members c = λ x.
    let half : x % 2 ^ 32 < 2 ^ 32 = omega arith in (
      λ h. (c.any.ensures.members x).0 h.0,
      λ below.
          ((c.any.ensures.members x).1 below, (c.any-2.ensures.members (x % 2 ^ 32)).1 half),
    )

-- a number of 32 bits is one of the width
half_below : (w : Width) (e : ℕ) → e < 2 ^ 32 → e < 2 ^ width_bits w
half_below Low32 e h = h
half_below Full64 e h = omega arith

pub returns-clause-tight : goal.returns-clause-tight
returns-clause-tight c =
    let t = c.any.ensures.tight in
    let r : Range = record { wide = c.any.result; low = c.any-2.result } in
    let has : (x : ℕ) → W.Has c.any.result x → Has r x = λ x h.
    let half : x % 2 ^ 32 < 2 ^ 32 = omega arith in
    (h, (c.any-2.ensures.members (x % 2 ^ 32)).1 half) in (
      has _ t.0,
      has _ t.1,
      has _ t.2,
      has _ t.3,
      reached_weaker c.any-2.result (L.Has c.any-2.result) (HasLow r)
          (λ e is. record {
            number = e;
            has = has e ((c.any.ensures.members e).1 (half_below c.args.width e is.below));
            low = mod-eq_of_lt {n = e} {m = 2 ^ 32} is.below;
          })
          c.any-2.ensures.tight,
    )
