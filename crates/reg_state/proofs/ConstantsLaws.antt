-- Laws of constants and of limits that no code cites; specs/Constants has those that code does.
use Rattle.reg_state.proofs.Common.{ℕ, ◌≡◌, inl, inr, arith, ints, Low32, Full64, range_limits, no_limits, IsLimit, IsAlone, bits_constant_only}
use Rattle.ranges.specs.declared.range.Range.{Range}
use Rattle.ranges.specs.Ranges as R
use Rattle.ranges.specs.Lows as L
use Rattle.reg_state.specs.declared.scalars.Scalar.{Scalar}
use Rattle.reg_state.specs.Scalars.{Has, IsNumber}

-- a Scalar that leaves one number has no other
pub IsNumber-only : (s : Scalar) (n x : ℕ) → IsNumber s n → Has s x → x ≡ n
IsNumber-only s n x (inl constant) h = bits_constant_only s.bits n x constant h.0
IsNumber-only s n x (inr alone) h =
    let from = h.1.0.from in let to = h.1.0.to in let limits = alone.1 in omega arith

-- where there are no limits, no number is the only one between them
pub no_limits-IsAlone : (n : ℕ) → IsAlone no_limits n → ⊥
no_limits-IsAlone n alone = let least = alone.0 in omega (arith, ints)

-- a range's limits are its own
pub range_limits-IsLimit : (r : Range) (n : ℕ) → IsLimit Full64 (range_limits Full64 r) n
    → R.IsLimit r n
range_limits-IsLimit r n is =
    elim is [
      | inl plain ↦
          elim plain [
            | inl least ↦ inl (inl (omega (arith, ints)))
            | inr greatest ↦ inl (inr (omega (arith, ints)))
          ]
      | inr signed ↦ inr signed
    ]

-- and so are those of its low halves
pub low_limits-IsLimit : (r : Range) (n : ℕ) → IsLimit Low32 (range_limits Low32 r) n
    → L.IsLimit r.low n
low_limits-IsLimit r n is =
    elim is [
      | inl plain ↦
          elim plain [
            | inl least ↦ inl (inl (omega (arith, ints)))
            | inr greatest ↦ inl (inr (omega (arith, ints)))
          ]
      | inr signed ↦ inr signed
    ]
