-- The limits that a domain knows of its numbers, and those of a domain that knows none.
use Rattle.std.specs.Prelude.{ℕ, ℤ, pos, negsuc, ◌^◌, ⊤}
use Rattle.isa_model.specs.declared.sizes.Width.{Width}
use Rattle.isa_model.specs.declared.sizes.Width.TheVariants.{Low32, Full64}
use Rattle.known_bits.specs.Bits as B
use Rattle.known_bits.specs.declared.bits.Bits.{Bits}
use Rattle.ranges.specs.Ranges as R
use Rattle.ranges.specs.Lows as L
use Rattle.ranges.specs.declared.range.Range.{Range}

-- no member is outside them; they may lie outside of all numbers of a register
pub record Limits : Type 0 where
  pub least : ℤ
  pub greatest : ℤ
  pub signed_least : ℤ
  pub signed_greatest : ℤ

-- at 64 bits those of the numbers, at 32 those of their low halves
abbrev pub range_limits : Width → Range → Limits
range_limits Full64 r = record {
  least = pos r.wide.least;
  greatest = pos r.wide.greatest;
  signed_least = r.wide.signed_least;
  signed_greatest = r.wide.signed_greatest;
}
range_limits Low32 r = record {
  least = pos r.low.least;
  greatest = pos r.low.greatest;
  signed_least = r.low.signed_least;
  signed_greatest = r.low.signed_greatest;
}

-- the number of the width is one of a range's, as the width reads them
abbrev pub range_allows : Width → Range → ℕ → Type 0
range_allows Full64 r x = R.Has r x
range_allows Low32 r x = L.Has r.low x

-- below and above each number of a register
abbrev pub no_limits : Limits
no_limits = record {
  least = negsuc 0;
  greatest = pos (2 ^ 64);
  signed_least = negsuc (2 ^ 63);
  signed_greatest = pos (2 ^ 63);
}

-- known bits exclude numbers at 64 bits only
abbrev pub bits_allows : Width → Bits → ℕ → Type 0
bits_allows Full64 b x = B.Has b x
bits_allows Low32 b x = ⊤
