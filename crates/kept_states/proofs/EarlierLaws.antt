-- What numbers were, from what differs.
use Rattle.kept_states.proofs.Common.{◌≡◌, ◌∙◌, ℕ, ℤ, ◌≤◌, ◌≤ℤ◌, max, List, drop, sym, ap, ap₂, arith, Some, ints, clamps, Bits, Wide, Low, Range, same_wide, same_low, Scalar, NumberStacks, earlier_bits, bits_left, earlier_number, numbers_left}
use Rattle.std.specs.Int.{Width as IntWidth, w32, w64, int_max}
use Rattle.kept_states.specs.declared.differences.Differences.{Differences}
use Rattle.kept_states.specs.declared.of_two.OfTwo.{OfTwo}
use Rattle.kept_states.specs.OfTwo.{IsPut, first_of, second_of, count_of}
use Rattle.kept_states.specs.SignedLimits.{IsSignedPut, signed_first, signed_second, signed_left}

-- limits in order
max_of : (a b c d : ℕ) → a ≡ c → b ≡ d → c ≤ d → max a b ≡ d
max_of a b c d first second ordered = omega (arith, clamps)

int_max_of : (a b c d : ℤ) → a ≡ c → b ≡ d → c ≤ℤ d → int_max a b ≡ d
int_max_of a b c d first second ordered = omega (arith, ints, clamps)

-- the same values are put
pub same_put : {A : Type 0} (w : OfTwo) (a b c d e f g h : A) (old new : List A) → a ≡ e → b ≡ f
    → c ≡ g → d ≡ h → IsPut w (a, b) (c, d) old new → IsPut w (e, f) (g, h) old new
same_put w a b c d e f g h old new one two three four put =
    record {
      first = ap (λ x. first_of w x new) (sym three) ∙ put.first ∙ one;
      second = ap (λ x. second_of w x new) (sym four) ∙ put.second ∙ two;
      left = put.left;
    }

-- signed limits that are not the unsigned ones
pub signed_put : {unsigned : ℕ × ℕ} {pair others : ℤ × ℤ} {old new : List ℤ} (w : IntWidth)
    (which : OfTwo) → IsPut which pair others old new
    → IsSignedPut w (Some which) unsigned pair others old new
signed_put w which put = record { first = put.first; second = put.second; left = put.left }

-- what was put gives back the number
pub number_back : (d : Differences) (old new : NumberStacks) (was there : Scalar)
    → earlier_bits d.bits there.bits new.bits ≡ was.bits
    → IsPut d.unsigned (was.range.wide.least, was.range.wide.greatest)
    (there.range.wide.least, there.range.wide.greatest) old.unsigned new.unsigned
    → IsSignedPut w64 d.signed (was.range.wide.least, was.range.wide.greatest)
    (was.range.wide.signed_least, was.range.wide.signed_greatest)
    (there.range.wide.signed_least, there.range.wide.signed_greatest) old.signed new.signed
    → IsPut d.low_unsigned (was.range.low.least, was.range.low.greatest)
    (there.range.low.least, there.range.low.greatest) old.low_unsigned new.low_unsigned
    → IsSignedPut w32 d.low_signed (was.range.low.least, was.range.low.greatest)
    (was.range.low.signed_least, was.range.low.signed_greatest)
    (there.range.low.signed_least, there.range.low.signed_greatest) old.low_signed
    new.low_signed
    → earlier_number d new there ≡ was
unfolding earlier_number
number_back d old new was there bits unsigned signed low_unsigned low_signed =
    let wide = was.range.wide in
    let low = was.range.low in
    let other = there.range.wide in
    let low_other = there.range.low in
    let first =
    ap (λ n. signed_first w64 d.signed n other.signed_least new.signed) unsigned.first
    ∙ signed.first in
    let second =
    ap (λ n. signed_second w64 d.signed n other.signed_greatest new.signed) unsigned.second
    ∙ signed.second in
    let low_first =
    ap (λ n. signed_first w32 d.low_signed n low_other.signed_least new.low_signed)
    low_unsigned.first ∙ low_signed.first in
    let low_second =
    ap (λ n. signed_second w32 d.low_signed n low_other.signed_greatest new.low_signed)
    low_unsigned.second ∙ low_signed.second in
    ap₂ (λ (b : Bits) (r : Range). record { bits = b; range = r }) bits
    (ap₂ (λ (w : Wide) (l : Low). record { wide = w; low = l })
    (same_wide _ wide unsigned.first
    (max_of _ _ wide.least wide.greatest unsigned.first unsigned.second wide.ordered) first
    (int_max_of _ _ wide.signed_least wide.signed_greatest first second wide.signed_ordered))
    (same_low _ low low_unsigned.first
    (max_of _ _ low.least low.greatest low_unsigned.first low_unsigned.second low.ordered)
    low_first
    (int_max_of _ _ low.signed_least low.signed_greatest low_first low_second
    low.signed_ordered)))

-- and the stacks
pub stacks_back : (d : Differences) (old new : NumberStacks) → bits_left d.bits new.bits ≡ old.bits
    → drop (count_of d.unsigned) new.unsigned ≡ old.unsigned
    → signed_left d.signed new.signed ≡ old.signed
    → drop (count_of d.low_unsigned) new.low_unsigned ≡ old.low_unsigned
    → signed_left d.low_signed new.low_signed ≡ old.low_signed → numbers_left d new ≡ old
unfolding numbers_left
stacks_back d old new bits unsigned signed low_unsigned low_signed =
    let first : numbers_left d new
    ≡ record (numbers_left d new) { bits = old.bits; unsigned = old.unsigned } =
    ap₂ (λ (b : List Bits) (u : List ℕ). record (numbers_left d new) { bits = b; unsigned = u })
    bits unsigned in
    let second : record (numbers_left d new) { bits = old.bits; unsigned = old.unsigned }
    ≡ record old {
      low_unsigned = (numbers_left d new).low_unsigned;
      low_signed = (numbers_left d new).low_signed;
    } =
    ap (λ (s : List ℤ). record (numbers_left d new) {
      bits = old.bits;
      unsigned = old.unsigned;
      signed = s;
    }) signed in
    first ∙ second
    ∙ ap₂ (λ (u : List ℕ) (s : List ℤ). record old { low_unsigned = u; low_signed = s })
    low_unsigned low_signed
