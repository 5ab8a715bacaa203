-- The results of arithmetic on Scalars: for each operation a relation, which is all that its
-- contract promises.
use Rattle.std.specs.Prelude.{◌≡◌, ℕ, ◌+◌, ◌*◌, ◌*ℤ◌, ◌/◌, ◌%◌, ◌^◌, ◌<◌, ◌≤◌, ℤ, pos, ◌-ℤ◌, ◌≤ℤ◌, FitsSigned}
use Rattle.std.specs.Int.{w32, w64, cast_signed, bit_at}
use Rattle.isa_model.specs.declared.sizes.Width.{Width}
use Rattle.isa_model.specs.declared.sizes.Width.TheVariants.{Full64}
use Rattle.isa_model.specs.declared.sizes.Extension.{Extension}
use Rattle.isa_model.specs.declared.sizes.SwapWidth.{SwapWidth}
use Rattle.isa_model.specs.declared.sizes.ByteOrder.{ByteOrder}
use Rattle.isa_model.specs.declared.sizes.ByteOrder.TheVariants.{Little}
use Rattle.isa_model.specs.declared.instructions.AluOp.{AluOp}
use Rattle.isa_model.specs.declared.instructions.AluOp.TheVariants.{Mul, Lsh}
use Rattle.isa_model.specs.Code.Sizes.{width_bits, span_bits, extension_bits, extension_width}
use Rattle.isa_model.specs.Code.Numbers.{alu, negated, sign_extended, reordered, shift}
use Rattle.known_bits.specs.Member.{Occurs}
use Rattle.known_bits.specs.Bits.{IsPrecise, KnowsProduct, greatest_of}
use Rattle.ranges.specs.Keeps.{extension_signed}
use Rattle.ranges.specs.Wides as W
use Rattle.ranges.specs.Lows as L
use Rattle.ranges.specs.Ranges as R
use Rattle.ranges.specs.Ranges.{ReadsLow}
use Rattle.reg_state.specs.declared.scalars.Scalar.{Scalar}
use Rattle.reg_state.specs.Scalars.{Has, IsConstant}

-- all members are from one number to another
abbrev pub IsFromTo : Scalar → ℕ → ℕ → Type 0
IsFromTo c least greatest = (z : ℕ) → Has c z → (least ≤ z) × (z ≤ greatest)

-- the same of the members read with a sign
abbrev pub IsSignedFromTo : Scalar → ℤ → ℤ → Type 0
IsSignedFromTo c least greatest =
    (z : ℕ) → Has c z → (least ≤ℤ cast_signed w64 z) × (cast_signed w64 z ≤ℤ greatest)

-- the low halves of all members are from one number to another
abbrev pub IsLowFromTo : Scalar → ℕ → ℕ → Type 0
IsLowFromTo c least greatest = (z : ℕ) → Has c z → (least ≤ z % 2 ^ 32) × (z % 2 ^ 32 ≤ greatest)

-- the same of them read with a sign
abbrev pub IsLowSignedFromTo : Scalar → ℤ → ℤ → Type 0
IsLowSignedFromTo c least greatest =
    (z : ℕ) → Has c z
    → (least ≤ℤ cast_signed w32 (z % 2 ^ 32)) × (cast_signed w32 (z % 2 ^ 32) ≤ℤ greatest)

-- two members of c differ in a bit only if two results of f do, on numbers that a's and b's bits
-- allow
abbrev pub IsSharp : Scalar → Scalar → (ℕ → ℕ → ℕ) → Scalar → Type 0
IsSharp a b f c =
    (i x y : ℕ) → i < 64 → Has c x → Has c y → bit_at x i ≡ 0 → bit_at y i ≡ 1
    → Occurs a.bits.value a.bits.mask b.bits.value b.bits.mask f i 0
    × Occurs a.bits.value a.bits.mask b.bits.value b.bits.mask f i 1

pub record IsAlu (op : AluOp) (w : Width) (a b c : Scalar) : Type 0 where
  pub contains : (x y : ℕ) → Has a x → Has b y → Has c (alu op w x y)
  pub exact : (u v : ℕ) → IsConstant a u → IsConstant b v → IsConstant c (alu op w u v)
  pub fits : (x : ℕ) → Has c x → x < 2 ^ width_bits w
  pub limits : a.range.wide.greatest < 2 ^ width_bits w → b.range.wide.greatest < 2 ^ width_bits w
      → W.KeepsLimits op w a.range.wide b.range.wide (IsFromTo c)
  pub signed : (x y : ℕ) → Has a x → Has b y → w ≡ Full64
      → W.KeepsSignedLimits op a.range.wide b.range.wide (IsSignedFromTo c)
  pub low_limits : (x y : ℕ) → Has a x → Has b y → ReadsLow op w b.range.wide
      → L.KeepsLimits op a.range.low b.range.low (IsLowFromTo c)
  pub low_signed : (x y : ℕ) → Has a x → Has b y → ReadsLow op w b.range.wide
      → L.KeepsSignedLimits op a.range.low b.range.low (IsLowSignedFromTo c)
  pub raised : (x y : ℕ) → Has a x → Has b y → op ≡ Lsh → w ≡ Full64
      → b.range.wide.least ≡ b.range.wide.greatest → 32 ≤ shift w b.range.wide.least
      → a.range.low.greatest * 2 ^ shift w b.range.wide.least < 2 ^ 64
      → IsFromTo c (a.range.low.least * 2 ^ shift w b.range.wide.least)
      (a.range.low.greatest * 2 ^ shift w b.range.wide.least)
  pub raised_signed : (x y : ℕ) → Has a x → Has b y → op ≡ Lsh → w ≡ Full64
      → b.range.wide.least ≡ b.range.wide.greatest → shift w b.range.wide.least ≡ 32
      → IsSignedFromTo c (a.range.low.signed_least *ℤ pos (2 ^ 32))
      (a.range.low.signed_greatest *ℤ pos (2 ^ 32))
  pub sharp : IsPrecise op b.bits → IsSharp a b (alu op w) c
  pub product : op ≡ Mul
      → KnowsProduct (greatest_of a.bits % 2 ^ width_bits w) (greatest_of b.bits % 2 ^ width_bits w)
      (Has c)

pub record IsNegated (w : Width) (a c : Scalar) : Type 0 where
  pub contains : (x : ℕ) → Has a x → Has c (negated w x)
  pub exact : (u : ℕ) → IsConstant a u → IsConstant c (negated w u)
  pub fits : (x : ℕ) → Has c x → x < 2 ^ width_bits w
  pub signed : (x : ℕ) → Has a x → w ≡ Full64 → FitsSigned w64 (pos 0 -ℤ a.range.wide.signed_least)
      → IsSignedFromTo c (pos 0 -ℤ a.range.wide.signed_greatest)
      (pos 0 -ℤ a.range.wide.signed_least)
  pub low_signed : (x : ℕ) → Has a x → FitsSigned w32 (pos 0 -ℤ a.range.low.signed_least)
      → IsLowSignedFromTo c (pos 0 -ℤ a.range.low.signed_greatest)
      (pos 0 -ℤ a.range.low.signed_least)
  pub sharp : IsSharp a a (λ x y. negated w x) c

pub record IsSignExtended (e : Extension) (a c : Scalar) : Type 0 where
  pub contains : (x : ℕ) → Has a x → Has c (sign_extended e x)
  pub exact : (u : ℕ) → IsConstant a u → IsConstant c (sign_extended e u)
  pub fits : (x : ℕ) → Has c x → x < 2 ^ width_bits (extension_width e)
  pub small : a.range.wide.greatest + a.range.wide.greatest < 2 ^ extension_bits e
      → IsFromTo c a.range.wide.least a.range.wide.greatest
  pub kept : (x : ℕ) → Has a x → extension_width e ≡ Full64
      → W.IsSignedOf (extension_signed e) a.range.wide → (z : ℕ) → Has c z → R.Has a.range z
  pub low_signed : (x : ℕ) → Has a x → (z : ℕ) → Has c z
      → FitsSigned (extension_signed e) (cast_signed w32 (z % 2 ^ 32))
  pub low_kept : (x : ℕ) → Has a x → L.IsSignedOf (extension_signed e) a.range.low
      → (z : ℕ) → Has c z → L.Has a.range.low (z % 2 ^ 32)
  pub sharp : IsSharp a a (λ x y. sign_extended e x) c

pub record IsReordered (order : ByteOrder) (span : SwapWidth) (a c : Scalar) : Type 0 where
  pub contains : (x : ℕ) → Has a x → Has c (reordered order span x)
  pub exact : (u : ℕ) → IsConstant a u → IsConstant c (reordered order span u)
  pub fits : (x : ℕ) → Has c x → x < 2 ^ span_bits span
  pub limits : order ≡ Little → a.range.wide.greatest < 2 ^ span_bits span
      → IsFromTo c a.range.wide.least a.range.wide.greatest
  pub low_limits : (x : ℕ) → Has a x → order ≡ Little → a.range.low.greatest < 2 ^ span_bits span
      → IsLowFromTo c a.range.low.least a.range.low.greatest
  pub bits : order ≡ Little → (i x y : ℕ) → i < 64 → Has c x → Has c y → bit_at x i ≡ 0
      → bit_at y i ≡ 1 → bit_at (a.bits.mask % 2 ^ span_bits span) i ≡ 1
  pub sharp : IsSharp a a (λ x y. reordered order span x) c

-- c has the numbers that `count` bits of a's members make, from bit `from` on. If no member of a
-- has a bit above these, a's limits without the bits below them are kept; if one has, and these are
-- the bits of the low half, a's limits of low halves are. Two members of c differ only in bits that
-- are unknown in a
pub record IsPart (from count : ℕ) (a c : Scalar) : Type 0 where
  pub contains : (x : ℕ) → Has a x → Has c (x / 2 ^ from % 2 ^ count)
  pub fits : (x : ℕ) → Has c x → x < 2 ^ count
  pub limits : a.range.wide.greatest / 2 ^ from < 2 ^ count
      → IsFromTo c (a.range.wide.least / 2 ^ from) (a.range.wide.greatest / 2 ^ from)
  pub low : from ≡ 0 → count ≡ 32 → 2 ^ 32 ≤ a.range.wide.greatest
      → IsFromTo c a.range.low.least a.range.low.greatest
  pub bits : (i x y : ℕ) → i < 64 → Has c x → Has c y → bit_at x i ≡ 0 → bit_at y i ≡ 1
      → bit_at (a.bits.mask / 2 ^ from % 2 ^ count) i ≡ 1
