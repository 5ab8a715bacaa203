-- The names that most proofs of this crate cite, passed on from one place. Declares nothing.
pub use Rattle.std.proofs.Common.{ℕ, ℤ, ◌≡◌, ◌≤◌, ◌<◌, ◌*◌, ◌%◌, ◌^◌, ap, refl, sym, subst, subst₂, ◌∙◌, arith, w64, ◌*ℤ◌, ◌≤ℤ◌, pos, negsuc, ◌+◌, ◌-◌, inl, inr, FitsSigned, zero, suc, ◌+ℤ◌, ◌-ℤ◌, int_div, int_rem, unsigned_abs, ◌/◌, Bool, true, false, cond, nat_eq, ◌⊎◌, ◌↔◌, neg_ℤ, ap₂, rules, bit_and, ◌≢◌, ◌<ℤ◌, int_lt}
pub use Rattle.std.proofs.Math.Facts.{sfits_to_z}
pub use Rattle.std.proofs.Math.Nat.{mod-eq_of_lt, div-le_self, div-mul-le_self, mod-le, div-zero, add-mod_right, mod-mod, mod-zero, mul_assoc}
pub use Rattle.std.proofs.lemmas.Bool.{cases_lt, lt-ltb, ne_eqb, le-ltb}
pub use Rattle.std.proofs.lemmas.Int.{ints, to_z-of_z, of_z-to_z, clamps, quot_fits, rem_below}
pub use Rattle.std.proofs.lemmas.Nat.{mod_below, mul-le, and_le_l, and_le_r, le-div, pow_pos, and_mod, or_mod, xor_mod, mul-mod, mul-mod_first, pow-add, and_mask}
pub use Rattle.std.proofs.lemmas.Option.{IfSome_then, none-some}
pub use Rattle.std.specs.Int.{w32, cast_signed, w8, w16, int_shr, cast_unsigned, int_min, int_max}
pub use Rattle.isa_model.proofs.ExtensionLaws.{sign_extended_cases, sign_extended_fits, sign_extended-small, sign_extended_below}
pub use Rattle.isa_model.proofs.NumberLaws.{alu_below, div_mono, low_wrapped, reordered_below, low_below, width_fits, arithmetic_shift_below, low_difference}
pub use Rattle.isa_model.specs.Code.NumberLaws.{low_same, signed_equation}
pub use Rattle.isa_model.specs.Code.Numbers.{result_of, shift, signed, unsigned, quotient, remainder}
unfoldable pub use Rattle.isa_model.specs.Code.Numbers.{alu, sign_extended, reordered}
pub use Rattle.isa_model.specs.Code.Sizes.{width_bits, extension_bits, extension_width, span_bits}
pub use Rattle.isa_model.specs.declared.instructions.AluOp.{AluOp}
pub use Rattle.isa_model.specs.declared.instructions.AluOp.TheVariants.{Lsh, Add, Sub, Mul, Div, SignedDiv, Or, And, Rsh, Mod, SignedMod, Xor, Mov, Arsh}
pub use Rattle.isa_model.specs.declared.sizes.Extension.{Extension}
pub use Rattle.isa_model.specs.declared.sizes.Extension.TheVariants.{Low8, Low16, Full8, Full16, Full32}
pub use Rattle.isa_model.specs.declared.sizes.Width.{Width}
pub use Rattle.isa_model.specs.declared.sizes.Width.TheVariants.{Low32, Full64}
pub use lib.Signed.{mag_shr, shr_z, le_z, mag_rem}
pub use Rattle.ranges.specs.Joint.{IsHalfBetween}
pub use Rattle.ranges.specs.Keeps.{KeepsUnsigned, KeepsSigned, extension_signed, KeepsSignedQuotient, KeepsSignedRemainder, signed_of}
pub use Rattle.ranges.specs.Lows.{IsLimit}
pub use Rattle.ranges.specs.Ranges.{Has, IsConstant, ReadsLow, Encloses, HasLow}
pub use Rattle.ranges.specs.Wides.{HasHalf, IsSignedBetween}
pub use Rattle.ranges.specs.declared.low.Low.{Low}
pub use Rattle.ranges.specs.declared.range.Range.{Range}
pub use Rattle.ranges.specs.declared.wide.Wide.{Wide}
