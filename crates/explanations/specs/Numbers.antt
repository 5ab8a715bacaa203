-- What is known of a number, as text.
use Rattle.std.specs.Prelude.{ℕ, ◌-◌, ◌%◌, ◌^◌, min, max, ◌==◌, nat_le, Bool, ◌&&◌, ◌||◌, not, List, [], ◌++◌, pos, negsuc, int_lt, codes, decimal, if◌then◌else◌}
use Rattle.std.specs.Fmt.{signed_decimal}
use Rattle.std.specs.Int.{w64, cast_signed}
use Rattle.known_bits.specs.Bits.{greatest_of}
use Rattle.ranges.specs.declared.wide.Wide.{Wide}
use Rattle.reg_state.specs.declared.scalars.Scalar.{Scalar}

-- the signed limits say more than the unsigned ones
abbrev pub says_more : Wide → Bool
says_more r =
    nat_le (2 ^ 63) r.greatest
    && (int_lt (negsuc (2 ^ 63 - 1)) r.signed_least || int_lt r.signed_greatest (pos (2 ^ 63 - 1)))

-- the limits at 64 bits
abbrev pub limits_words : Scalar → List ℕ
limits_words numbers =
    if says_more numbers.range.wide then
    codes "number " ++ (signed_decimal numbers.range.wide.signed_least
    ++ (codes " to " ++ signed_decimal numbers.range.wide.signed_greatest))
    else if numbers.range.wide.least == 0 && numbers.range.wide.greatest == 2 ^ 64 - 1
    then codes "any number"
    else codes "number "
    ++ (decimal numbers.range.wide.least ++ (codes " to " ++ decimal numbers.range.wide.greatest))

-- ---- low halves

-- what bits and limits show of the low half
abbrev pub low_least : Scalar → ℕ
low_least numbers = max (numbers.bits.value % 2 ^ 32) numbers.range.low.least

abbrev pub low_greatest : Scalar → ℕ
low_greatest numbers =
    min (min (greatest_of numbers.bits % 2 ^ 32) numbers.range.low.greatest)
    numbers.range.wide.greatest

-- the low half, or its limits, as text
abbrev pub half_words : Scalar → List ℕ
half_words numbers =
    if low_least numbers == low_greatest numbers then decimal (low_least numbers)
    else decimal (low_least numbers) ++ (codes " to " ++ decimal (low_greatest numbers))

-- whether bits and limits show more of the low half than that it has 32 bits
abbrev pub is_half_known : Scalar → Bool
is_half_known numbers = not (low_least numbers == 0 && low_greatest numbers == 2 ^ 32 - 1)

-- the low half, where that is known and the limits at 64 bits do not show it
abbrev pub low_part : Scalar → List ℕ
low_part numbers =
    if nat_le (2 ^ 32) numbers.range.wide.greatest && is_half_known numbers
    then codes ", low half " ++ half_words numbers else []

-- ---- numbers

-- a constant as a signed number, or the limits; other known bits are not written
abbrev pub number_words : Scalar → List ℕ
number_words numbers =
    if numbers.range.wide.least == numbers.range.wide.greatest
    then codes "number " ++ signed_decimal (cast_signed w64 numbers.range.wide.least)
    else limits_words numbers ++ low_part numbers
