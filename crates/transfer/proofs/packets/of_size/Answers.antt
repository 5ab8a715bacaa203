use Rattle.transfer.proofs.Common.{◌≡◌, ℕ, ◌+◌, ◌*◌, ◌^◌, pos, sym, ap, ◌∙◌, arith, size_bytes}
use Rattle.transfer.proofs.Sizes.{of_size_unknown, greatest_signed}
use Rattle.transfer.proofs.packets.of_size.Goals as goal

pub returns : goal.returns
returns c =
    let size = c.args.size in
    let most : ℕ = c.greatest_number-greatest.result in
    let is : most + 1 ≡ 2 ^ (8 * size_bytes size) = c.greatest_number-greatest.ensures in
    let bits = c.between.ensures in
    let range = c.between-2.ensures in
    let limits = range.limits in
    record {
      members = λ x. (
        λ h. let to = h.1.0.to in omega arith,
        λ below. (
          bits.contains x (omega arith) (omega arith),
          (range.members x).1 (omega arith, omega arith),
        ),
      );
      unknown = λ i one. of_size_unknown size most i is (bits.sharp i one);
      least = limits.0;
      greatest = omega arith;
      signed_least =
          λ narrow. (range.signed (greatest_signed size most is narrow).0).0
          ∙ (greatest_signed size most is narrow).2;
      signed_greatest =
          λ narrow. (range.signed (greatest_signed size most is narrow).0).1
          ∙ (greatest_signed size most is narrow).1
          ∙ ap pos (sym limits.1);
    }
