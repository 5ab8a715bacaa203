-- What is within limits is within wider ones.
use Rattle.ranges.proofs.Common.{ℕ, ◌%◌, ◌^◌, arith, ints, Has, IsConstant, Encloses, Wide, Low, Range}
use Rattle.ranges.specs.Wides as W
use Rattle.ranges.specs.Lows as L

-- what is within limits is within wider ones
pub enclosed_wide : (a b : Wide) (x : ℕ) → W.Encloses a b → W.Has b x → W.Has a x
enclosed_wide a b x h within = record {
  below = within.below;
  from = let lower = h.0 in let from = within.from in omega arith;
  to = let upper = h.1 in let to = within.to in omega arith;
  signed_from = let lower = h.2 in let from = within.signed_from in omega (arith, ints);
  signed_to = let upper = h.3 in let to = within.signed_to in omega (arith, ints);
}

-- and so are low halves
pub enclosed_low : (a b : Low) (e : ℕ) → L.Encloses a b → L.Has b e → L.Has a e
enclosed_low a b e h within = record {
  below = within.below;
  from = let lower = h.0 in let from = within.from in omega arith;
  to = let upper = h.1 in let to = within.to in omega arith;
  signed_from = let lower = h.2 in let from = within.signed_from in omega (arith, ints);
  signed_to = let upper = h.3 in let to = within.signed_to in omega (arith, ints);
}

-- and so is what is within both
pub enclosed_has : (a b : Range) (x : ℕ) → Encloses a b → Has b x → Has a x
enclosed_has a b x h within =
    (enclosed_wide a.wide b.wide x h.0 within.0, enclosed_low a.low b.low (x % 2 ^ 32) h.1 within.1)

-- limits that a number is within are as wide as its own
pub constant_enclosed : (r d : Range) (n : ℕ) → IsConstant d n → Has r n → Encloses r d
constant_enclosed r d n c h =
    let from = h.0.from in
    let to = h.0.to in
    let low_from = h.1.from in
    let low_to = h.1.to in (
      (
        omega (arith, c.0.0),
        omega (arith, c.0.1),
        rw c.0.2 h.0.signed_from,
        rw c.0.3 h.0.signed_to,
      ),
      (
        omega (arith, c.1.0),
        omega (arith, c.1.1),
        rw c.1.2 h.1.signed_from,
        rw c.1.3 h.1.signed_to,
      ),
    )
