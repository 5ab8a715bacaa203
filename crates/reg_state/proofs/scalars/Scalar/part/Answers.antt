use Rattle.reg_state.proofs.Common.{◌<◌, ◌^◌, ap, sym, ◌∙◌, arith, bit_at, bit_at-differing}
use Rattle.reg_state.proofs.scalars.Scalar.part.Goals as goal

pub returns : goal.returns
returns c = record {
  contains = λ x h.
      let within = c.part.ensures.contains x h.1 in
      c.limited.ensures.contains _ (c.part-2.ensures.contains x h.0) within.0.from within.0.to;
  fits = λ x h. c.part-2.ensures.fits x (c.limited.ensures.narrower x h).0;
  limits = λ fits z h.
      let inside = c.limited.ensures.narrower z h in
      let kept = c.part.ensures.limits fits in
      let from = inside.1 in
      let to = inside.2 in
      (omega (arith, kept.0, from), omega (arith, kept.1, to));
  low = λ none half large z h.
      let inside = c.limited.ensures.narrower z h in
      let kept = c.part.ensures.low none half large in
      let from = inside.1 in
      let to = inside.2 in
      (omega (arith, kept.0, from), omega (arith, kept.1, to));
  bits = λ i x y inside hx hy zero one.
      let fits : c.part-2.result.mask < 2 ^ 64 = omega arith in
      ap (λ m. bit_at m i) (sym c.part-2.ensures.mask)
      ∙ bit_at-differing c.part-2.result.value c.part-2.result.mask x y i fits
      (c.limited.ensures.narrower x hx).0 (c.limited.ensures.narrower y hy).0 inside zero one;
}
