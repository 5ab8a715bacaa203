-- Constants in registers, as parts of call frames.
use Rattle.std.specs.Prelude.{ℕ, ◌%◌, ◌^◌}
use Rattle.std.specs.Int.{w32, w64, cast_signed}
use Rattle.std.specs.Int.Bits.{and_zero_r}
use Rattle.std.specs.Int.Signed.{≤ℤ_refl}
use Rattle.std.proofs.Math.Nat.{le_refl}
use Rattle.std.proofs.lemmas.Nat.{pow_pos}
use Rattle.reg_state.specs.declared.scalars.Scalar.{Scalar}
use Rattle.reg_state.specs.declared.kinds.Kind.TheVariants.{Number}
use Rattle.state_index.specs.declared.parts.Part.{Part}
use Rattle.state_index.specs.declared.parts.Part.TheVariants.{InRegister}

-- what is known of a number that is v: each limit is v, or its low half
unfoldable pub constant_numbers : ℕ → Scalar
constant_numbers v =
    record {
      bits = record { value = v; mask = 0; apart = and_zero_r v; fits = pow_pos 64 };
      range = record {
        wide = record {
          least = v;
          greatest = v;
          signed_least = cast_signed w64 v;
          signed_greatest = cast_signed w64 v;
          ordered = le_refl v;
          signed_ordered = ≤ℤ_refl (cast_signed w64 v);
        };
        low = record {
          least = v % 2 ^ 32;
          greatest = v % 2 ^ 32;
          signed_least = cast_signed w32 (v % 2 ^ 32);
          signed_greatest = cast_signed w32 (v % 2 ^ 32);
          ordered = le_refl (v % 2 ^ 32);
          signed_ordered = ≤ℤ_refl (cast_signed w32 (v % 2 ^ 32));
        };
      };
    }

-- register n has the number v
abbrev pub constant_part : ℕ → ℕ → Part
constant_part n v = InRegister n (Number (constant_numbers v))
