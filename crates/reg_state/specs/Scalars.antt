-- The members of a `Scalar`, and the relations that its contracts use.
use Rattle.std.specs.Prelude.{ℕ, ◌≢◌, ◌⊎◌}
use Rattle.isa_model.specs.declared.sizes.Width.{Width}
use Rattle.isa_model.specs.declared.sizes.Width.TheVariants.{Low32, Full64}
use Rattle.known_bits.specs.Bits as B
use Rattle.ranges.specs.Ranges as R
use Rattle.ranges.specs.Lows as L
use Rattle.reg_state.specs.declared.scalars.Scalar.{Scalar}

-- x is a member of the bits and of the range
abbrev pub Has : Scalar → ℕ → Type 0
Has s x = B.Has s.bits x × R.Has s.range x

-- a's bits allow each number that b's allow, and no limit of b is outside those of a
abbrev pub Encloses : Scalar → Scalar → Type 0
Encloses a b = ((x : ℕ) → B.Has b.bits x → B.Has a.bits x) × R.Encloses a.range b.range

-- the bits mean x and no other number, and so does the range
abbrev pub IsConstant : Scalar → ℕ → Type 0
IsConstant s x = B.IsConstant s.bits x × R.IsConstant s.range x

-- the bits leave x only, or some bit is not known and the limits leave x only
abbrev pub IsNumber : Scalar → ℕ → Type 0
IsNumber s x = B.IsConstant s.bits x ⊎ ((s.bits.mask ≢ 0) × R.LeavesOnly s.range x)

-- a member may be read as this number, at this width: at 32 bits, the number is between the limits
-- of low halves
abbrev pub allows : Width → Scalar → ℕ → Type 0
allows Full64 s x = Has s x
allows Low32 s x = L.Has s.range.low x
