-- The numbers of a `Wide`, and the relations that its contracts use.
use Rattle.std.specs.Prelude.{ℕ, ℤ, ◌≡◌, ◌%◌, ◌^◌, ◌≤◌, ◌≤ℤ◌, FitsSigned}
use Rattle.std.specs.Int.{Width as IntWidth, w64, cast_signed, cast_unsigned}
use Rattle.isa_model.specs.declared.sizes.Width.{Width}
use Rattle.isa_model.specs.declared.sizes.Width.TheVariants.{Full64}
use Rattle.isa_model.specs.declared.instructions.AluOp.{AluOp}
use Rattle.ranges.specs.Keeps.{KeepsUnsigned, KeepsSigned}
use Rattle.ranges.specs.Within.{IsWithin}
use Rattle.ranges.specs.declared.wide.Wide.{Wide}

-- x is one of the numbers
abbrev pub Has : Wide → ℕ → Type 0
Has r x = IsWithin r.least r.greatest r.signed_least r.signed_greatest x

-- each limit is x
abbrev pub IsConstant : Wide → ℕ → Type 0
IsConstant r x =
    (r.least ≡ x) × (r.greatest ≡ x)
    × (r.signed_least ≡ cast_signed w64 x) × (r.signed_greatest ≡ cast_signed w64 x)

-- the unsigned limits are no wider than from one number to another
abbrev pub IsBetween : Wide → ℕ → ℕ → Type 0
IsBetween r least greatest = (least ≤ r.least) × (r.greatest ≤ greatest)

-- the signed limits are no wider than from one number to another
abbrev pub IsSignedBetween : Wide → ℤ → ℤ → Type 0
IsSignedBetween r least greatest = (least ≤ℤ r.signed_least) × (r.signed_greatest ≤ℤ greatest)

-- the signed limits are numbers of the type
abbrev pub IsSignedOf : IntWidth → Wide → Type 0
IsSignedOf w r = FitsSigned w r.signed_least × FitsSigned w r.signed_greatest

-- the signed limits are the unsigned ones, read with a sign
abbrev pub ReadsAlike : Wide → Type 0
ReadsAlike r =
    (r.signed_least ≡ cast_signed w64 r.least) × (r.signed_greatest ≡ cast_signed w64 r.greatest)

-- each limit is one of the numbers: no narrower limits have all of them
abbrev pub IsTight : Wide → Type 0
IsTight r =
    Has r r.least × Has r r.greatest
    × Has r (cast_unsigned w64 r.signed_least) × Has r (cast_unsigned w64 r.signed_greatest)

-- the number of 32 bits is the low half of one of the numbers
pub record HasHalf (r : Wide) (half : ℕ) : Type 0 where
  pub number : ℕ
  pub has : Has r number
  pub low : number % 2 ^ 32 ≡ half

-- no limit of b is outside those of a
abbrev pub Encloses : Wide → Wide → Type 0
Encloses a b =
    (a.least ≤ b.least) × (b.greatest ≤ a.greatest)
    × (a.signed_least ≤ℤ b.signed_least) × (b.signed_greatest ≤ℤ a.signed_greatest)

-- the unsigned limits that an operation's result must keep, from those of two sets of numbers of
-- the width
abbrev pub KeepsLimits : AluOp → Width → Wide → Wide → (ℕ → ℕ → Type 0) → Type 0
KeepsLimits op w a b keeps = KeepsUnsigned op w a.least a.greatest b.least b.greatest keeps

-- the signed limits that it must keep at 64 bits
abbrev pub KeepsSignedLimits : AluOp → Wide → Wide → (ℤ → ℤ → Type 0) → Type 0
KeepsSignedLimits op a b keeps =
    KeepsSigned op Full64 a.signed_least a.signed_greatest b.signed_least b.signed_greatest
    b.least b.greatest keeps
