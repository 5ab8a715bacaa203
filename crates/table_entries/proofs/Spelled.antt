-- Bits, limits and numbers, compared field by field with those that were read.
use Rattle.table_entries.proofs.Common.{◌≡◌, ℕ, ◌^◌, ◌<◌, ℤ, List, drop, Some, sym, ap, ◌∙◌, refl, of_z-to_z, to_z-of_z, SFits, bits, of_z, to_z, Scalar, bits_of, wide_of, low_of, bits_in, wide_in, low_in, scalar_in}
use mir.Syntax.{Width}
use Rattle.known_bits.specs.declared.bits.Bits.{Bits}
use Rattle.ranges.specs.declared.wide.Wide.{Wide}
use Rattle.ranges.specs.declared.low.Low.{Low}
use Rattle.table_entries.proofs.KindLaws.{bits_of-is, wide_of-is, low_of-is}

-- a signed number that is compared by its bits
pub signed-spelled : (w : Width) (n : ℕ) (z s : ℤ) → n < 2 ^ bits w → SFits w s → z ≡ to_z w n
    → of_z w z ≡ of_z w s → to_z w n ≡ s
signed-spelled w n z s fits signed_fits cast same =
    let number : n ≡ of_z w s = sym (of_z-to_z w n fits) ∙ ap (of_z w) (sym cast) ∙ same in
    ap (to_z w) number ∙ to_z-of_z w s signed_fits

pub bits-spelled : (b : Bits) (v m : ℕ) → v ≡ b.value → m ≡ b.mask → bits_of v m ≡ Some b
bits-spelled b v m a c = rw (a, c) (bits_of-is b)

pub wide-spelled : (w : Wide) (l g : ℕ) (s t : ℤ) → l ≡ w.least → g ≡ w.greatest
    → s ≡ w.signed_least → t ≡ w.signed_greatest → wide_of l g s t ≡ Some w
wide-spelled w l g s t a b c d = rw (a, b, c, d) (wide_of-is w)

pub low-spelled : (w : Low) (l g : ℕ) (s t : ℤ) → l ≡ w.least → g ≡ w.greatest → s ≡ w.signed_least
    → t ≡ w.signed_greatest → low_of l g s t ≡ Some w
low-spelled w l g s t a b c d = rw (a, b, c, d) (low_of-is w)

pub scalar-spelled : (bytes : List ℕ) (x : Scalar) → bits_in bytes ≡ Some x.bits
    → wide_in (drop 16 bytes) ≡ Some x.range.wide → low_in (drop 48 bytes) ≡ Some x.range.low
    → scalar_in bytes ≡ Some x
unfolding scalar_in
scalar-spelled bytes x a b c = rw (a, b, c) refl
