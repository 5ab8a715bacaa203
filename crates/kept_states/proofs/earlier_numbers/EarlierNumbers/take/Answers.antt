use Rattle.kept_states.proofs.Common.{◌∙◌, reverse, sym, ap, ap₂, max, arith, w32, w64, int_max, to_z-of_z, Bits, Wide, Low, Range, same_wide, same_low, Scalar, NumberStacks, earlier_number, numbers_left}
use Rattle.kept_states.specs.SignedLimits.{signed_first, signed_second}
use Rattle.kept_states.proofs.EarlierLaws.{stacks_back}
use Rattle.kept_states.proofs.earlier_numbers.EarlierNumbers.take.Goals as goal

pub returns-clause-number : goal.returns-clause-number
unfolding earlier_number
returns-clause-number c =
    let own = c.self.inside in
    let old : NumberStacks =
    record {
      bits = reverse own.bits.items;
      unsigned = reverse own.unsigned.items;
      signed = reverse own.signed.items;
      low_unsigned = reverse own.low_unsigned.items;
      low_signed = reverse own.low_signed.items;
    } in
    let k : Scalar = earlier_number c.args.differ old c.args.there.now in
    let unsigned = c.take-unsigned in
    let low_unsigned = c.take-low_unsigned in
    let signed = c.take_signed-signed in
    let low_signed = c.take_low_signed-low_signed in
    let there = c.args.there.now.range in
    let d = c.args.differ in
    let signed_is =
    signed.ensures.first
    ∙ ap₂ (λ n z. signed_first w64 d.signed n z old.signed)
    unsigned.ensures.first (to_z-of_z w64 there.wide.signed_least (omega arith)) in
    let signed_to =
    signed.ensures.second
    ∙ ap₂ (λ n z. signed_second w64 d.signed n z old.signed)
    unsigned.ensures.second (to_z-of_z w64 there.wide.signed_greatest (omega arith)) in
    let low_signed_is =
    low_signed.ensures.first
    ∙ ap₂ (λ n z. signed_first w32 d.low_signed n z old.low_signed)
    low_unsigned.ensures.first (to_z-of_z w32 there.low.signed_least (omega arith)) in
    let low_signed_to =
    low_signed.ensures.second
    ∙ ap₂ (λ n z. signed_second w32 d.low_signed n z old.low_signed)
    low_unsigned.ensures.second (to_z-of_z w32 there.low.signed_greatest (omega arith)) in
    ap₂ (λ (b : Bits) (r : Range). record { bits = b; range = r }) c.take_bits-bits.ensures.bits
    (ap₂ (λ (w : Wide) (l : Low). record { wide = w; low = l })
    (same_wide _ k.range.wide unsigned.ensures.first
    (c.max.ensures ∙ ap₂ max unsigned.ensures.first unsigned.ensures.second)
    (to_z-of_z w64 signed.result.0 (omega arith) ∙ signed_is)
    (to_z-of_z w64 c.max-2.result (omega arith) ∙ c.max-2.ensures.value
    ∙ ap₂ int_max (to_z-of_z w64 signed.result.0 (omega arith) ∙ signed_is)
    (to_z-of_z w64 signed.result.1 (omega arith) ∙ signed_to)))
    (same_low _ k.range.low low_unsigned.ensures.first
    (c.max-3.ensures ∙ ap₂ max low_unsigned.ensures.first low_unsigned.ensures.second)
    (to_z-of_z w32 low_signed.result.0 (omega arith) ∙ low_signed_is)
    (to_z-of_z w32 c.max-4.result (omega arith) ∙ c.max-4.ensures.value
    ∙ ap₂ int_max (to_z-of_z w32 low_signed.result.0 (omega arith) ∙ low_signed_is)
    (to_z-of_z w32 low_signed.result.1 (omega arith) ∙ low_signed_to))))
    ∙ ap (λ s. earlier_number c.args.differ s c.args.there.now) c.self.view_is

pub returns-clause-left : goal.returns-clause-left
unfolding numbers_left
returns-clause-left c =
    let own = c.self.inside in
    let old : NumberStacks =
    record {
      bits = reverse own.bits.items;
      unsigned = reverse own.unsigned.items;
      signed = reverse own.signed.items;
      low_unsigned = reverse own.low_unsigned.items;
      low_signed = reverse own.low_signed.items;
    } in
    sym (stacks_back c.args.differ _ old (sym c.take_bits-bits.ensures.left)
    (sym c.take-unsigned.ensures.left) (sym c.take_signed-signed.ensures.left)
    (sym c.take-low_unsigned.ensures.left) (sym c.take_low_signed-low_signed.ensures.left))
    ∙ ap (numbers_left c.args.differ) c.self.view_is
