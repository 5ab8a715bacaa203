-- What `refine` shows of two sets of a domain whose members are compared: all that its contract
-- promises, as one relation.
use Rattle.std.specs.Prelude.{◌≡◌, ◌≢◌, ℕ, Bool, bit_and}
use Rattle.isa_model.specs.declared.sizes.Width.{Width}
use Rattle.isa_model.specs.declared.sizes.Width.TheVariants.{Low32, Full64}
use Rattle.isa_model.specs.declared.instructions.Comparison.{Comparison}
use Rattle.isa_model.specs.Code.Numbers.{holds, low}
use Rattle.known_bits.specs.Bits.{greatest_of}
use Rattle.reg_state.specs.declared.scalars.Scalar.{Scalar}
use Rattle.reg_state.specs.Limits.{Limits, range_limits}
use Rattle.reg_state.specs.Going.{MayGo, MayShare, ReadsWhole, exchanged}
use Rattle.reg_state.specs.Scalars.{Has, IsConstant, allows}

-- the set has more than one member
abbrev pub HasSeveral : {D : Type 0} → (D → ℕ → Type 0) → D → Type 0
HasSeveral has d = (u : ℕ) × (v : ℕ) × has d u × has d v × (u ≢ v)

-- the comparison reads the members of both whole, as their limits or their bits show
abbrev pub AreReadWhole : {D : Type 0} → (Width → D → Limits) → (D → ℕ) → Comparison → Width → D → D
    → Type 0
AreReadWhole limits possible comparison w a b =
    ReadsWhole comparison w (limits Full64 a) (possible a)
    × ReadsWhole comparison w (limits Full64 b) (possible b)

-- what the outcome of a comparison at the width shows of the members of left and right, as the
-- width reads them
pub record ShowsAt {D : Type 0} (has : D → ℕ → Type 0) (limits : Width → D → Limits)
    (allows : Width → D → ℕ → Type 0)
    (w : Width) (comparison : Comparison) (taken : Bool) (a b left right : D) : Type 0 where
  pub left_limits : (x : ℕ) → has left x
      → MayGo w comparison taken (allows w b) (limits w b) (limits w a) (low w x)
  pub right_limits : (y : ℕ) → has right y
      → MayGo w (exchanged comparison) taken (allows w a) (limits w a) (limits w b) (low w y)

-- what the outcome of a comparison of whole numbers shows of them
pub record ShowsWhole {D : Type 0} (has : D → ℕ → Type 0) (limits : Width → D → Limits)
    (ones possible : D → ℕ)
    (comparison : Comparison) (taken : Bool) (a b left right : D) : Type 0 where
  pub left_limits : (x : ℕ) → has left x
      → MayGo Full64 comparison taken (has b) (limits Full64 b) (limits Full64 a) x
  pub right_limits : (y : ℕ) → has right y
      → MayGo Full64 (exchanged comparison) taken (has a) (limits Full64 a) (limits Full64 b) y
  pub left_bits : (x : ℕ) → has left x
      → MayShare comparison taken (ones b) (bit_and (possible a) (possible b)) x
  pub right_bits : (y : ℕ) → has right y
      → MayShare comparison taken (ones a) (bit_and (possible a) (possible b)) y

-- left and right are what is left of a and b where the comparison of a member of each has this
-- outcome. `has` and the names after it are the domain's functions on its sets
pub record DomainShows {D : Type 0} (has is_constant : D → ℕ → Type 0) (limits : Width → D → Limits)
    (allows : Width → D → ℕ → Type 0) (ones possible : D → ℕ)
    (comparison : Comparison) (w : Width) (taken : Bool) (a b left right : D) : Type 0 where
  pub common : (x y : ℕ) → has a x → has b y → holds comparison w x y ≡ taken
      → has left x × has right y
  pub left_fewer : (x : ℕ) → has left x → has a x
  pub right_fewer : (y : ℕ) → has right y → has b y
  pub left_constant : (u : ℕ) → is_constant a u → is_constant left u
  pub right_constant : (v : ℕ) → is_constant b v → is_constant right v
  pub left_limits : AreReadWhole limits possible comparison w a b → HasSeveral has a → (x : ℕ)
      → has left x → MayGo Full64 comparison taken (has b) (limits Full64 b) (limits Full64 a) x
  pub right_limits : AreReadWhole limits possible comparison w a b → HasSeveral has b → (y : ℕ)
      → has right y
      → MayGo Full64 (exchanged comparison) taken (has a) (limits Full64 a) (limits Full64 b) y
  pub left_bits : AreReadWhole limits possible comparison w a b → HasSeveral has a → (x : ℕ)
      → has left x → MayShare comparison taken (ones b) (bit_and (possible a) (possible b)) x
  pub right_bits : AreReadWhole limits possible comparison w a b → HasSeveral has b → (y : ℕ)
      → has right y → MayShare comparison taken (ones a) (bit_and (possible a) (possible b)) y
  pub left_low_limits : w ≡ Low32 → HasSeveral has a → (x : ℕ) → has left x
      → MayGo Low32 comparison taken (allows Low32 b) (limits Low32 b) (limits Low32 a)
      (low Low32 x)
  pub right_low_limits : w ≡ Low32 → HasSeveral has b → (y : ℕ) → has right y
      → MayGo Low32 (exchanged comparison) taken (allows Low32 a) (limits Low32 a) (limits Low32 b)
      (low Low32 y)

-- the same of Scalars
abbrev pub NarrowsBoth : Comparison → Width → Bool → Scalar → Scalar → Scalar → Scalar → Type 0
NarrowsBoth =
    DomainShows Has IsConstant (λ w s. range_limits w s.range) allows (λ s. s.bits.value)
    (λ s. greatest_of s.bits)
