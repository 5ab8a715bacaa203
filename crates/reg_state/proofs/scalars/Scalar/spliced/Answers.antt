use Rattle.reg_state.proofs.Common.{ℕ, ◌<◌, ◌≤◌, ◌≡◌, ◌%◌, ◌^◌, ◌-◌, ap, sym, ◌∙◌, subst, arith, Option, None, Some, IfSome, bit_at, pow_pos, spliced, bit_at-differing}
use Rattle.known_bits.proofs.Splices.{spliced_least, spliced_greatest, spliced_wider}
use Rattle.ranges.specs.declared.low.Low.{Low}
use Rattle.ranges.specs.Lows as L
use Rattle.reg_state.proofs.scalars.Scalar.spliced.Goals as goal

from_least : (a b c d : ℕ) → a ≤ b → c ≡ b → c ≤ d → a ≤ d
from_least a b c d h e k = omega arith

to_greatest : (a b c d : ℕ) → a ≤ c → c ≡ b → b ≤ d → a ≤ d
to_greatest a b c d h e k = omega arith

ordered : (a b c d : ℕ) → a ≡ b → c ≡ d → b ≤ d → a ≤ c
ordered a b c d h k l = omega arith

-- the low half of a number that was written is within the limits that are known
within : (f : ℕ → ℕ → ℕ) (low : Option Low) (old new : Low) (x y : ℕ)
    → IfSome low
    (λ l. (x y : ℕ) → L.Has old (x % 2 ^ 32) → L.Has new (y % 2 ^ 32) → L.Has l (f x y % 2 ^ 32))
    → L.Has old (x % 2 ^ 32) → L.Has new (y % 2 ^ 32) → IfSome low (λ l. L.Has l (f x y % 2 ^ 32))
within f None old new x y h hx hy = h
within f (Some l) old new x y h hx hy = h x y hx hy

-- a low half is within the limits that are known
low_is : (low : Option Low) (l m : Low) (z : ℕ) → low ≡ Some l → IfSome low (λ k. m ≡ k)
    → L.Has m (z % 2 ^ 32) → (l.least ≤ z % 2 ^ 32) × (z % 2 ^ 32 ≤ l.greatest)
low_is low l m z e h has =
    let is = subst (λ (k : Low). L.Has k (z % 2 ^ 32))
    (subst (λ (o : Option Low). IfSome o (λ k. m ≡ k)) e h) has in
    (is.from, is.to)

pub shown-least-requires : goal.shown-least-requires
shown-least-requires c =
    let old = c.args.self.range.wide in
    let new = c.low_limits.result in
    let some = pow_pos c.args.from in
    ordered _ _ _ _ c.limits-least.ensures.least c.limits-least.ensures.greatest
    (spliced_wider c.args.from c.args.count old.least new.0 old.greatest new.1 0
    (2 ^ c.args.from - 1)
    old.ordered c.low_limits.ensures.ordered c.low_limits.ensures.fits some (omega arith)
    (omega arith))

pub returns : goal.returns
returns c = record {
  contains = λ x y hx hy.
      let there = c.low_limits.ensures.contains y hy.1 in
      let new = c.low_limits.result in
      let least = spliced_least c.args.from c.args.count c.args.self.range.wide.least new.0 x y
      hx.1.0.from there.0 in
      let greatest =
      spliced_greatest c.args.from c.args.count x y c.args.self.range.wide.greatest new.1
      hx.1.0.to there.1 c.low_limits.ensures.fits in
      let inside = c.shown-least.ensures.contains _ (c.spliced-both.ensures.contains x y hx.0 hy.0)
      (subst (λ n. n ≤ spliced c.args.from c.args.count x y)
      (sym c.limits-least.ensures.least) least)
      (subst (λ n. spliced c.args.from c.args.count x y ≤ n)
      (sym c.limits-least.ensures.greatest) greatest) in
      c.single.ensures.contains _ (
        inside.0,
        c.with_low-range.ensures.members _ inside.1 inside.2
            (within (spliced c.args.from c.args.count) c.given_low-low.result c.args.self.range.low
            c.args.other.range.low x y c.given_low-low.ensures.contains hx.1.1 hy.1.1),
      );
  bits = λ i x y inside hx hy zero one.
      let left = c.shown-least.ensures.bits x (c.single.ensures.narrower x hx).0 in
      let right = c.shown-least.ensures.bits y (c.single.ensures.narrower y hy).0 in
      let fits : c.spliced-both.result.mask < 2 ^ 64 = omega arith in
      ap (λ m. bit_at m i) (sym c.spliced-both.ensures.mask)
      ∙ bit_at-differing c.spliced-both.result.value c.spliced-both.result.mask x y i fits left
      right inside zero one;
  limits = λ fits z hz.
      let inside = (c.single.ensures.narrower z hz).1.0 in
      let shown = c.shown-least.ensures.limits in
      let whole = c.with_low-range.ensures.limits in
      let from = inside.from in
      let to = inside.to in
      let new = c.low_limits.result in
      let kept = c.low_limits.ensures.kept fits in
      let some = pow_pos c.args.from in (
        from_least _ _ _ _
            (spliced_wider c.args.from c.args.count c.args.self.range.wide.least
            c.args.other.range.wide.least
            c.args.self.range.wide.least new.0 0 0 (omega arith) kept.0
            (let o = c.low_limits.ensures.ordered in
            let f = c.low_limits.ensures.fits in omega arith) some some (omega arith))
            c.limits-least.ensures.least (omega (arith, shown.0, whole.0, from)),
        to_greatest _ _ _ _ (omega (arith, shown.2, whole.1, to)) c.limits-least.ensures.greatest
            (spliced_wider c.args.from c.args.count c.args.self.range.wide.greatest new.1
            c.args.self.range.wide.greatest c.args.other.range.wide.greatest (2 ^ c.args.from - 1)
            (2 ^ c.args.from - 1) (omega arith)
            kept.1 fits (omega arith) (omega arith) (omega arith)),
      );
  low = λ x y hx hy none half z hz.
      low_is c.given_low-low.result c.args.other.range.low c.with_low-range.result.low z
      (c.given_low-low.ensures.new none half) c.with_low-range.ensures.low
      (c.single.ensures.narrower z hz).1.1;
  kept = λ x y hx hy above z hz.
      low_is c.given_low-low.result c.args.self.range.low c.with_low-range.result.low z
      (c.given_low-low.ensures.old above) c.with_low-range.ensures.low
      (c.single.ensures.narrower z hz).1.1;
}
