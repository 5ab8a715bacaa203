-- The limits that an operation's result keeps: a relation that they have may be replaced by a
-- weaker one.
use Rattle.ranges.proofs.Common.{ℕ, zero, suc, ℤ, pos, negsuc, unsigned_abs, arith, ints, Width, Low32, Full64, AluOp, Add, Sub, Mul, Div, SignedDiv, Or, And, Lsh, Rsh, Mod, SignedMod, Xor, Mov, Arsh, Low, Wide, KeepsUnsigned, KeepsSigned, KeepsSignedQuotient, KeepsSignedRemainder, signed_of}
use Rattle.std.specs.Int.{Width as IntWidth, cast_signed}
use Rattle.ranges.specs.Wides as W
use Rattle.ranges.specs.Lows.{IsBetween, IsSignedBetween, Encloses, KeepsLimits, KeepsSignedLimits}

-- the unsigned limits
pub keeps_weaker : (op : AluOp) (w : Width) (al ag bl bg : ℕ) (P Q : ℕ → ℕ → Type 0)
    → ((l g : ℕ) → P l g → Q l g)
    → KeepsUnsigned op w al ag bl bg P → KeepsUnsigned op w al ag bl bg Q
keeps_weaker Add w al ag bl bg P Q f h = λ fits. f _ _ (h fits)
keeps_weaker Sub w al ag bl bg P Q f h = λ le. f _ _ (h le)
keeps_weaker Mul w al ag bl bg P Q f h = λ fits. f _ _ (h fits)
keeps_weaker Div w al ag bl bg P Q f h = (f _ _ h.0, λ some. f _ _ (h.1 some))
keeps_weaker Mod w al ag bl bg P Q f h = (f _ _ h.0, λ some. f _ _ (h.1 some))
keeps_weaker SignedDiv w al ag bl bg P Q f h =
    λ plain. (f _ _ ((h plain).0), λ some. f _ _ ((h plain).1 some))
keeps_weaker SignedMod w al ag bl bg P Q f h =
    λ plain. (f _ _ ((h plain).0), λ some. f _ _ ((h plain).1 some))
keeps_weaker And w al ag bl bg P Q f h = (f _ _ h.0, f _ _ h.1)
keeps_weaker Lsh w al ag bl bg P Q f h = λ one fits. f _ _ (h one fits)
keeps_weaker Rsh w al ag bl bg P Q f h = (f _ _ h.0, λ one. f _ _ (h.1 one))
keeps_weaker Mov w al ag bl bg P Q f h = f _ _ h
keeps_weaker Or w al ag bl bg P Q f h = tt
keeps_weaker Xor w al ag bl bg P Q f h = tt
keeps_weaker Arsh w al ag bl bg P Q f h = tt

-- the signed ones of a division by a number that is known
signed_quotient_weaker : (w : IntWidth) (al ag by : ℤ) (P Q : ℤ → ℤ → Type 0)
    → ((l g : ℤ) → P l g → Q l g)
    → KeepsSignedQuotient w al ag by P → KeepsSignedQuotient w al ag by Q
signed_quotient_weaker w al ag (pos by) P Q f h = f _ _ h
signed_quotient_weaker w al ag (negsuc by) P Q f h = λ fits. f _ _ (h fits)

signed_remainder_weaker : (al ag : ℤ) (by : ℕ) (P Q : ℤ → ℤ → Type 0) → ((l g : ℤ) → P l g → Q l g)
    → KeepsSignedRemainder al ag by P → KeepsSignedRemainder al ag by Q
signed_remainder_weaker al ag zero P Q f h = f _ _ h
signed_remainder_weaker al ag (suc most) P Q f h = (f _ _ h.0, f _ _ h.1)

-- and all signed ones
pub keeps_signed_weaker : (op : AluOp) (w : Width) (al ag bl bg : ℤ) (d e : ℕ)
    (P Q : ℤ → ℤ → Type 0)
    → ((l g : ℤ) → P l g → Q l g)
    → KeepsSigned op w al ag bl bg d e P → KeepsSigned op w al ag bl bg d e Q
keeps_signed_weaker Add w al ag bl bg d e P Q f h = λ fl fg. f _ _ (h fl fg)
keeps_signed_weaker Sub w al ag bl bg d e P Q f h = λ fl fg. f _ _ (h fl fg)
keeps_signed_weaker Arsh w al ag bl bg d e P Q f h = λ one. f _ _ (h one)
keeps_signed_weaker SignedDiv w al ag bl bg d e P Q f h = λ one.
    signed_quotient_weaker (signed_of w) al ag (cast_signed (signed_of w) d) P Q f (h one)
keeps_signed_weaker SignedMod w al ag bl bg d e P Q f h = λ one.
    signed_remainder_weaker al ag (unsigned_abs (cast_signed (signed_of w) d)) P Q f (h one)
keeps_signed_weaker Mov w al ag bl bg d e P Q f h = f _ _ h
keeps_signed_weaker Mul w al ag bl bg d e P Q f h = tt
keeps_signed_weaker Div w al ag bl bg d e P Q f h = tt
keeps_signed_weaker Mod w al ag bl bg d e P Q f h = tt
keeps_signed_weaker And w al ag bl bg d e P Q f h = tt
keeps_signed_weaker Lsh w al ag bl bg d e P Q f h = tt
keeps_signed_weaker Rsh w al ag bl bg d e P Q f h = tt
keeps_signed_weaker Or w al ag bl bg d e P Q f h = tt
keeps_signed_weaker Xor w al ag bl bg d e P Q f h = tt

-- what low halves keep, narrower ones keep
pub kept_limits : (op : AluOp) (a b l m : Low) → Encloses l m → KeepsLimits op a b (IsBetween l)
    → KeepsLimits op a b (IsBetween m)
kept_limits op a b l m enclosed = keeps_weaker op Low32 a.least a.greatest b.least b.greatest
    (IsBetween l) (IsBetween m)
    (λ from to h. (omega (arith, h.0, enclosed.0), omega (arith, h.1, enclosed.1)))

pub kept_signed_limits : (op : AluOp) (a b l m : Low) → Encloses l m
    → KeepsSignedLimits op a b (IsSignedBetween l) → KeepsSignedLimits op a b (IsSignedBetween m)
kept_signed_limits op a b l m enclosed =
    keeps_signed_weaker op Low32 a.signed_least a.signed_greatest
    b.signed_least b.signed_greatest b.least b.greatest (IsSignedBetween l) (IsSignedBetween m)
    (λ from to h. (omega (arith, ints, h.0, enclosed.2), omega (arith, ints, h.1, enclosed.3)))

-- and what numbers keep
pub kept_wide_limits : (op : AluOp) (w : Width) (a b l m : Wide) → W.Encloses l m
    → W.KeepsLimits op w a b (W.IsBetween l) → W.KeepsLimits op w a b (W.IsBetween m)
kept_wide_limits op w a b l m enclosed = keeps_weaker op w a.least a.greatest b.least b.greatest
    (W.IsBetween l) (W.IsBetween m)
    (λ from to h. (omega (arith, h.0, enclosed.0), omega (arith, h.1, enclosed.1)))

pub kept_wide_signed_limits : (op : AluOp) (a b l m : Wide) → W.Encloses l m
    → W.KeepsSignedLimits op a b (W.IsSignedBetween l)
    → W.KeepsSignedLimits op a b (W.IsSignedBetween m)
kept_wide_signed_limits op a b l m enclosed =
    keeps_signed_weaker op Full64 a.signed_least a.signed_greatest
    b.signed_least b.signed_greatest b.least b.greatest (W.IsSignedBetween l) (W.IsSignedBetween m)
    (λ from to h. (omega (arith, ints, h.0, enclosed.2), omega (arith, ints, h.1, enclosed.3)))
