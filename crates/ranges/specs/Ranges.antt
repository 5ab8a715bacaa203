-- The numbers of a `Range`, and the relations that its contracts use.
use Rattle.std.specs.Prelude.{ℕ, ◌≡◌, ◌%◌, ◌^◌, ◌<◌, ◌⊎◌, ⊤}
use Rattle.std.specs.Int.{w64, cast_signed, cast_unsigned}
use Rattle.isa_model.specs.declared.sizes.Width.{Width}
use Rattle.isa_model.specs.declared.sizes.Width.TheVariants.{Low32, Full64}
use Rattle.isa_model.specs.declared.instructions.AluOp.{AluOp}
use Rattle.isa_model.specs.declared.instructions.AluOp.TheVariants.{Add, Sub, Mul, And, Or, Xor, Mov, Lsh}
use Rattle.isa_model.specs.Code.Numbers.{shift}
use Rattle.ranges.specs.Wides as W
use Rattle.ranges.specs.Lows as L
use Rattle.ranges.specs.declared.wide.Wide.{Wide}
use Rattle.ranges.specs.declared.range.Range.{Range}

-- x is one of the numbers
abbrev pub Has : Range → ℕ → Type 0
Has r x = W.Has r.wide x × L.Has r.low (x % 2 ^ 32)

-- each limit is x, or its low half
abbrev pub IsConstant : Range → ℕ → Type 0
IsConstant r x = W.IsConstant r.wide x × L.IsConstant r.low (x % 2 ^ 32)

-- the unsigned limits leave x only
abbrev pub LeavesOnly : Range → ℕ → Type 0
LeavesOnly r x = (r.wide.least ≡ x) × (r.wide.greatest ≡ x)

-- x is one of the limits, of the unsigned or of the signed ones
abbrev pub IsLimit : Range → ℕ → Type 0
IsLimit r x =
    ((r.wide.least ≡ x) ⊎ (r.wide.greatest ≡ x))
    ⊎ ((r.wide.signed_least ≡ cast_signed w64 x) ⊎ (r.wide.signed_greatest ≡ cast_signed w64 x))

-- the number of 32 bits is the low half of one of the numbers
pub record HasLow (r : Range) (half : ℕ) : Type 0 where
  pub number : ℕ
  pub has : Has r number
  pub low : number % 2 ^ 32 ≡ half

-- each limit is one of the numbers, or the low half of one: no narrower limits have all of them
abbrev pub IsTight : Range → Type 0
IsTight r =
    Has r r.wide.least × Has r r.wide.greatest
    × Has r (cast_unsigned w64 r.wide.signed_least)
    × Has r (cast_unsigned w64 r.wide.signed_greatest)
    × L.AreReached r.low (HasLow r)

-- no limit of b is outside those of a
abbrev pub Encloses : Range → Range → Type 0
Encloses a b = W.Encloses a.wide b.wide × L.Encloses a.low b.low

-- the low half of the result is the 32-bit result on low halves. This holds at 32 bits, and at 64
-- bits for Add, Sub, Mul, And, Or, Xor and Mov, and for Lsh by a known distance below 32
abbrev pub ReadsLow : AluOp → Width → Wide → Type 0
ReadsLow op Low32 b = ⊤
ReadsLow Add Full64 b = ⊤
ReadsLow Sub Full64 b = ⊤
ReadsLow Mul Full64 b = ⊤
ReadsLow And Full64 b = ⊤
ReadsLow Or Full64 b = ⊤
ReadsLow Xor Full64 b = ⊤
ReadsLow Mov Full64 b = ⊤
ReadsLow Lsh Full64 b = (b.least ≡ b.greatest) × (shift Full64 b.least < 32)
ReadsLow _ Full64 b = ⊥
