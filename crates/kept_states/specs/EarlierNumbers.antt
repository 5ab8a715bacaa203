-- What numbers were before they changed, by what differs from the numbers that are there now.
use Rattle.std.specs.Prelude.{ℕ, ℤ, List, drop, max, Bool, true, false}
use Rattle.std.specs.Int.{w32, w64, int_max}
use Rattle.known_bits.specs.declared.bits.Bits.{Bits}
use Rattle.reg_state.specs.declared.scalars.Scalar.{Scalar}
use Rattle.kept_states.specs.declared.differences.Differences.{Differences}
use Rattle.kept_states.specs.OfTwo.{top, first_of, second_of, count_of}
use Rattle.kept_states.specs.SignedLimits.{signed_first, signed_second, signed_left}

-- the known bits and the limits that differed, the last ones first
pub record NumberStacks : Type 0 where
  pub bits : List Bits
  pub unsigned : List ℕ
  pub signed : List ℤ
  pub low_unsigned : List ℕ
  pub low_signed : List ℤ

abbrev pub earlier_bits : Bool → Bits → List Bits → Bits
earlier_bits true there bits = top there bits
earlier_bits false there bits = there

abbrev pub bits_left : Bool → List Bits → List Bits
bits_left true bits = drop 1 bits
bits_left false bits = bits

-- the number that was put last: what was kept of it, and else what is known of the one there now.
-- A greatest number is no less than the least one
unfoldable pub earlier_number : Differences → NumberStacks → Scalar → Scalar
earlier_number d s there =
    let wide = there.range.wide in
    let low = there.range.low in
    let least = first_of d.unsigned wide.least s.unsigned in
    let signed_least = signed_first w64 d.signed least wide.signed_least s.signed in
    let low_least = first_of d.low_unsigned low.least s.low_unsigned in
    let low_signed_least =
    signed_first w32 d.low_signed low_least low.signed_least s.low_signed in
    let greatest = second_of d.unsigned wide.greatest s.unsigned in
    let signed_greatest = signed_second w64 d.signed greatest wide.signed_greatest s.signed in
    let low_greatest = second_of d.low_unsigned low.greatest s.low_unsigned in
    let low_signed_greatest =
    signed_second w32 d.low_signed low_greatest low.signed_greatest s.low_signed in
    record {
      bits = earlier_bits d.bits there.bits s.bits;
      range = record {
        wide = record {
          least = least;
          greatest = max least greatest;
          signed_least = signed_least;
          signed_greatest = int_max signed_least signed_greatest;
          ordered = d.ordered least greatest;
          signed_ordered = d.signed_ordered signed_least signed_greatest;
        };
        low = record {
          least = low_least;
          greatest = max low_least low_greatest;
          signed_least = low_signed_least;
          signed_greatest = int_max low_signed_least low_signed_greatest;
          ordered = d.ordered low_least low_greatest;
          signed_ordered = d.signed_ordered low_signed_least low_signed_greatest;
        };
      };
    }

-- what was kept of the numbers before
unfoldable pub numbers_left : Differences → NumberStacks → NumberStacks
numbers_left d s =
    record {
      bits = bits_left d.bits s.bits;
      unsigned = drop (count_of d.unsigned) s.unsigned;
      signed = signed_left d.signed s.signed;
      low_unsigned = drop (count_of d.low_unsigned) s.low_unsigned;
      low_signed = signed_left d.low_signed s.low_signed;
    }
