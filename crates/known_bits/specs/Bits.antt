-- The members of a `Bits`, and the relations that its contracts use.
use Rattle.std.specs.Prelude.{ℕ, ◌≡◌, ◌+◌, ◌*◌, ◌/◌, ◌%◌, ◌^◌, ◌<◌, ◌≤◌, ⊤, bit_or}
use Rattle.std.specs.Int.{bit_at}
use Rattle.isa_model.specs.declared.instructions.AluOp.{AluOp}
use Rattle.isa_model.specs.declared.instructions.AluOp.TheVariants.{Add, Sub, Or, And, Xor, Lsh, Rsh, Mov, Arsh}
use Rattle.known_bits.specs.Member.{IsMember, Occurs}
use Rattle.known_bits.specs.declared.bits.Bits.{Bits}

-- x is a member
abbrev pub Has : Bits → ℕ → Type 0
Has b x = IsMember b.value b.mask x

-- x is the only member: no bit is unknown
abbrev pub IsConstant : Bits → ℕ → Type 0
IsConstant b x = (b.value ≡ x) × (b.mask ≡ 0)

-- the mask has a bit only if it is 0 in some result of f on members, and 1 in another
abbrev pub IsSharp : Bits → Bits → (ℕ → ℕ → ℕ) → ℕ → Type 0
IsSharp a b f mask =
    (i : ℕ) → bit_at mask i ≡ 1
    → Occurs a.value a.mask b.value b.mask f i 0 × Occurs a.value a.mask b.value b.mask f i 1

-- the operations whose result is sharp: no bit is unknown that is the same in all results; of
-- shifts, only those by a known distance
abbrev pub IsPrecise : AluOp → Bits → Type 0
IsPrecise Add b = ⊤
IsPrecise Sub b = ⊤
IsPrecise Or b = ⊤
IsPrecise And b = ⊤
IsPrecise Xor b = ⊤
IsPrecise Mov b = ⊤
IsPrecise Lsh b = b.mask ≡ 0
IsPrecise Rsh b = b.mask ≡ 0
IsPrecise Arsh b = b.mask ≡ 0
IsPrecise _ b = ⊥

-- the greatest member: it has each bit that some member has
abbrev pub greatest_of : Bits → ℕ
greatest_of b = bit_or b.value b.mask

-- what a and b, the greatest members of two factors, show of their products, the numbers for which
-- `has` holds: each has the trailing zeros of both, and none has more bits than a * b
pub record KnowsProduct (a b : ℕ) (has : ℕ → Type 0) : Type 0 where
  pub zeros : (j k z : ℕ) → j + k ≤ 64 → a % 2 ^ j ≡ 0 → b % 2 ^ k ≡ 0 → has z → z % 2 ^ (j + k) ≡ 0
  pub limit : (l z : ℕ) → a * b < 2 ^ l → has z → z < 2 ^ l

-- some member of a and some member of b have the relation R
pub record SomePair (a b : Bits) (R : ℕ → ℕ → Type 0) : Type 0 where
  pub x : ℕ
  pub y : ℕ
  pub first : Has a x
  pub second : Has b y
  pub is : R x y

-- x, in which `count` bits from bit `from` on are replaced by the low bits of y
abbrev pub spliced : ℕ → ℕ → ℕ → ℕ → ℕ
spliced from count x y =
    (x / 2 ^ (from + count) * 2 ^ count + y % 2 ^ count) * 2 ^ from + x % 2 ^ from
