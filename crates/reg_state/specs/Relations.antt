-- What the outcome of a comparison says of two numbers, as a relation of them: an order, an
-- equation, or that they share a bit. RFC 9669, section 4.3.
use Rattle.std.proofs.Common.{◌≡◌, ◌≢◌, ℕ, ◌^◌, ◌<◌, ◌≤◌, ◌<ℤ◌, ◌≤ℤ◌, Bool, true, false, bit_and}
use Rattle.std.specs.Prelude.{if◌then◌else◌}
use Rattle.isa_model.specs.declared.sizes.Width.{Width}
use Rattle.isa_model.specs.declared.sizes.Width.TheVariants.{Low32}
use Rattle.isa_model.specs.declared.sizes.Extension.TheVariants.{Full32}
use Rattle.isa_model.specs.declared.instructions.Comparison.{Comparison}
use Rattle.isa_model.specs.declared.instructions.Comparison.TheVariants.{Equal, NotEqual, Greater, GreaterEqual, Less, LessEqual, AnyBit, SignedGreater, SignedGreaterEqual, SignedLess, SignedLessEqual}
use Rattle.isa_model.specs.Code.Numbers.{low, signed, sign_extended}

-- of two numbers, as the width reads them
abbrev pub ComparesTo : Width → Comparison → Bool → ℕ → ℕ → Type 0
ComparesTo w Equal true x y = low w x ≡ low w y
ComparesTo w Equal false x y = low w x ≢ low w y
ComparesTo w NotEqual true x y = low w x ≢ low w y
ComparesTo w NotEqual false x y = low w x ≡ low w y
ComparesTo w Greater true x y = low w y < low w x
ComparesTo w Greater false x y = low w x ≤ low w y
ComparesTo w GreaterEqual true x y = low w y ≤ low w x
ComparesTo w GreaterEqual false x y = low w x < low w y
ComparesTo w Less true x y = low w x < low w y
ComparesTo w Less false x y = low w y ≤ low w x
ComparesTo w LessEqual true x y = low w x ≤ low w y
ComparesTo w LessEqual false x y = low w y < low w x
ComparesTo w AnyBit true x y = bit_and (low w x) (low w y) ≢ 0
ComparesTo w AnyBit false x y = bit_and (low w x) (low w y) ≡ 0
ComparesTo w SignedGreater true x y = signed w (low w y) <ℤ signed w (low w x)
ComparesTo w SignedGreater false x y = signed w (low w x) ≤ℤ signed w (low w y)
ComparesTo w SignedGreaterEqual true x y = signed w (low w y) ≤ℤ signed w (low w x)
ComparesTo w SignedGreaterEqual false x y = signed w (low w x) <ℤ signed w (low w y)
ComparesTo w SignedLess true x y = signed w (low w x) <ℤ signed w (low w y)
ComparesTo w SignedLess false x y = signed w (low w y) ≤ℤ signed w (low w x)
ComparesTo w SignedLessEqual true x y = signed w (low w x) ≤ℤ signed w (low w y)
ComparesTo w SignedLessEqual false x y = signed w (low w y) <ℤ signed w (low w x)

-- whether a comparison is of signed numbers
abbrev pub reads_signed : Comparison → Bool
reads_signed SignedGreater = true
reads_signed SignedGreaterEqual = true
reads_signed SignedLess = true
reads_signed SignedLessEqual = true
reads_signed _ = false

-- a low half as a comparison at 32 bits reads it, in 64 bits: extended by its sign or by zeros
abbrev pub low_half : Comparison → ℕ → ℕ
low_half c n = if reads_signed c then sign_extended Full32 n else low Low32 n

-- numbers below it are their own low halves: where the sign counts, those without a sign bit
abbrev pub low_half_limit : Comparison → ℕ
low_half_limit c = if reads_signed c then 2 ^ 31 else 2 ^ 32
