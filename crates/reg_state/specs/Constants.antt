-- The laws of constants and of limits, for known bits and for ranges.
use Rattle.std.proofs.Common.{ℕ, ◌≡◌, ◌%◌, ◌^◌, ◌<◌, ◌∙◌, arith}
use Rattle.std.proofs.lemmas.Int.{ints}
use Rattle.std.proofs.lemmas.Nat.{and_mask}
use Rattle.known_bits.specs.Member.{IsMember}
use Rattle.known_bits.specs.declared.bits.Bits.{Bits}
use Rattle.known_bits.specs.Bits as B
use Rattle.ranges.specs.declared.range.Range.{Range}
use Rattle.ranges.specs.Ranges as R
use Rattle.isa_model.specs.Code.NumberLaws.{signed_equation, low_same}
use Rattle.isa_model.specs.Code.Numbers.{low}
use Rattle.isa_model.specs.declared.sizes.Width.{Width}
use Rattle.isa_model.specs.declared.sizes.Width.TheVariants.{Low32, Full64}
use Rattle.reg_state.specs.Limits.{range_limits, no_limits}
use Rattle.reg_state.specs.Going.{IsWithinLimits}

one_has : (x : ℕ) → x < 2 ^ 64 → IsMember x 0 x
one_has x h = record { below = h; known = and_mask x 64 ∙ omega arith }

one_only : (x y : ℕ) → IsMember x 0 y → y ≡ x
one_only x y h = let b = h.below in let k = h.known in let m = and_mask y 64 in omega arith

pub bits_constant_has : (d : Bits) (u : ℕ) → u < 2 ^ 64 → B.IsConstant d u → B.Has d u
bits_constant_has d u h c = rw (c.0, c.1) (one_has u h)

pub bits_constant_only : (d : Bits) (u x : ℕ) → B.IsConstant d u → B.Has d x → x ≡ u
bits_constant_only d u x c h = one_only d.value x (rw c.1 at h) ∙ c.0

pub range_constant_has : (d : Range) (u : ℕ) → u < 2 ^ 64 → R.IsConstant d u → R.Has d u
range_constant_has d u h c = (
  record {
    below = h;
    from = omega (arith, c.0.0);
    to = omega (arith, c.0.1);
    signed_from = omega (arith, ints, c.0.2);
    signed_to = omega (arith, ints, c.0.3);
  },
  record {
    below = omega arith;
    from = omega (arith, c.1.0);
    to = omega (arith, c.1.1);
    signed_from = omega (arith, ints, c.1.2);
    signed_to = omega (arith, ints, c.1.3);
  },
)

pub range_constant_only : (d : Range) (u x : ℕ) → R.IsConstant d u → R.Has d x → x ≡ u
range_constant_only d u x c h =
    let from = h.0.from in let to = h.0.to in omega (arith, c.0.0, c.0.1)

-- `no_limits` leave out no number of the width
pub any_inside : (w : Width) (x : ℕ) → IsWithinLimits w no_limits (low w x)
any_inside Full64 x =
    let e = signed_equation (x % 2 ^ 64) (omega arith) in
    record {
      from = omega (arith, ints);
      to = omega (arith, ints);
      signed_from = omega (arith, ints);
      signed_to = omega (arith, ints);
    }
any_inside Low32 x =
    record {
      from = omega (arith, ints);
      to = omega (arith, ints);
      signed_from = omega (arith, ints);
      signed_to = omega (arith, ints);
    }

pub range_inside : (d : Range) (w : Width) (x : ℕ) → R.Has d x
    → IsWithinLimits w (range_limits w d) (low w x)
range_inside d Full64 x h =
    rw (low_same Full64 x h.0.below) record {
      from = let from = h.0.from in omega (arith, ints);
      to = let to = h.0.to in omega (arith, ints);
      signed_from = h.0.signed_from;
      signed_to = h.0.signed_to;
    }
range_inside d Low32 x h = record {
  from = let from = h.1.from in omega (arith, ints);
  to = let to = h.1.to in omega (arith, ints);
  signed_from = h.1.signed_from;
  signed_to = h.1.signed_to;
}
