-- The low halves of a `Low`, and the relations that its contracts use.
use Rattle.std.specs.Prelude.{ℕ, ℤ, ◌≡◌, ◌≤◌, ◌≤ℤ◌, ◌⊎◌, FitsSigned}
use Rattle.std.specs.Int.{Width as IntWidth, w32, cast_signed, cast_unsigned}
use Rattle.isa_model.specs.declared.sizes.Width.TheVariants.{Low32}
use Rattle.isa_model.specs.declared.instructions.AluOp.{AluOp}
use Rattle.ranges.specs.Keeps.{KeepsUnsigned, KeepsSigned}
use Rattle.ranges.specs.Within.{IsLowWithin}
use Rattle.ranges.specs.declared.low.Low.{Low}

-- the number of 32 bits is one of the low halves
abbrev pub Has : Low → ℕ → Type 0
Has l half = IsLowWithin l.least l.greatest l.signed_least l.signed_greatest half

-- each limit is the number
abbrev pub IsConstant : Low → ℕ → Type 0
IsConstant l half =
    (l.least ≡ half) × (l.greatest ≡ half)
    × (l.signed_least ≡ cast_signed w32 half) × (l.signed_greatest ≡ cast_signed w32 half)

-- the unsigned limits leave this half only
abbrev pub LeavesOnly : Low → ℕ → Type 0
LeavesOnly l half = (l.least ≡ half) × (l.greatest ≡ half)

-- the half is one of the limits, of the unsigned or of the signed ones
abbrev pub IsLimit : Low → ℕ → Type 0
IsLimit l half =
    ((l.least ≡ half) ⊎ (l.greatest ≡ half))
    ⊎ ((l.signed_least ≡ cast_signed w32 half) ⊎ (l.signed_greatest ≡ cast_signed w32 half))

-- the unsigned limits are no wider than from one number to another
abbrev pub IsBetween : Low → ℕ → ℕ → Type 0
IsBetween l least greatest = (least ≤ l.least) × (l.greatest ≤ greatest)

-- the signed limits are no wider than from one number to another
abbrev pub IsSignedBetween : Low → ℤ → ℤ → Type 0
IsSignedBetween l least greatest = (least ≤ℤ l.signed_least) × (l.signed_greatest ≤ℤ greatest)

-- the signed limits are numbers of the type
abbrev pub IsSignedOf : IntWidth → Low → Type 0
IsSignedOf w l = FitsSigned w l.signed_least × FitsSigned w l.signed_greatest

-- the signed limits are the unsigned ones, read with a sign
abbrev pub ReadsAlike : Low → Type 0
ReadsAlike l =
    (l.signed_least ≡ cast_signed w32 l.least) × (l.signed_greatest ≡ cast_signed w32 l.greatest)

-- `is` holds of each limit
abbrev pub AreReached : Low → (ℕ → Type 0) → Type 0
AreReached l is =
    is l.least × is l.greatest × is (cast_unsigned w32 l.signed_least)
    × is (cast_unsigned w32 l.signed_greatest)

-- each limit is one of the low halves: no narrower limits have all of them
abbrev pub IsTight : Low → Type 0
IsTight l = AreReached l (Has l)

-- each limit is that of one of the two
abbrev pub IsOfEither : Low → Low → Low → Type 0
IsOfEither l a b =
    ((l.least ≡ a.least) ⊎ (l.least ≡ b.least))
    × ((l.greatest ≡ a.greatest) ⊎ (l.greatest ≡ b.greatest))
    × ((l.signed_least ≡ a.signed_least) ⊎ (l.signed_least ≡ b.signed_least))
    × ((l.signed_greatest ≡ a.signed_greatest) ⊎ (l.signed_greatest ≡ b.signed_greatest))

-- no limit of b is outside those of a
abbrev pub Encloses : Low → Low → Type 0
Encloses a b =
    (a.least ≤ b.least) × (b.greatest ≤ a.greatest)
    × (a.signed_least ≤ℤ b.signed_least) × (b.signed_greatest ≤ℤ a.signed_greatest)

-- the unsigned limits that an operation's result must keep at 32 bits
abbrev pub KeepsLimits : AluOp → Low → Low → (ℕ → ℕ → Type 0) → Type 0
KeepsLimits op a b keeps = KeepsUnsigned op Low32 a.least a.greatest b.least b.greatest keeps

-- the signed limits that it must keep at 32 bits
abbrev pub KeepsSignedLimits : AluOp → Low → Low → (ℤ → ℤ → Type 0) → Type 0
KeepsSignedLimits op a b keeps =
    KeepsSigned op Low32 a.signed_least a.signed_greatest b.signed_least b.signed_greatest
    b.least b.greatest keeps
