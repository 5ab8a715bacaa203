-- The names that most proofs of this crate cite, passed on from one place. Declares nothing.
pub use Rattle.std.proofs.Common.{◌≡◌, ℕ, ◌+◌, ◌-◌, ◌*◌, ◌/◌, ◌%◌, ◌^◌, ◌<◌, ◌≤◌, min, max, w64, sym, ap, ◌∙◌, inl, inr, arith, bit_and, bit_or, bit_xor, ◌⊎◌, zero, suc, w32, refl, ◌≢◌, w16, ap₂, subst₂, add-zero, ◌≤ℤ◌, rules}
pub use Rattle.std.proofs.Math.Nat.{div-mul-le_self, mod-lt, div-le_self, mod-eq_of_lt, mod-le, div-eq_of_lt, add-mod, add-mul-div_right, div-lt_iff_lt-mul, div-div-eq-div-mul}
pub use Rattle.std.proofs.Math.Pow.{pow-lt, pow_mono}
pub use Rattle.std.proofs.lemmas.Bool.{cases_lt, lt-ltb, le-ltb, eqb-true, eq-eqb}
pub use Rattle.std.proofs.lemmas.Int.{ints, of_z-to_z}
pub use Rattle.std.proofs.lemmas.Nat.{and_le_l, and_le_r, and_mod, or_lt, xor_lt, pow_pos, shr_split, div-mul-add, le-div, div_below, and_mask, pow-add, mod_below, or_mod, one_shl, mod-pow-add, or_disjoint, mod-mul-add, mul-le, xor_shr, leading_length, le_or_r, xor_mod, and_comm}
pub use Rattle.std.proofs.lemmas.Nat.Bits.{bit_at_and, bit_at_or, bit_at_xor, bit_at-lt, bit_at_ones, bit_at_not, bit_at_above, bit_at_cat_low, bit_at_cat_high, same_from_bits_below, bit_at-zero, same_from_bits, bit_at-pow_same, bit_at-pow_other, bit_at-trailing_zeros, and_pow, and_high_mask, bit_at_mask_inside, bit_at_mask_below, bit_at_mask_above, shr_and_one}
pub use Rattle.std.specs.Int.{bit_at, bit_not, int_shr, trailing_zeros, leading_zeros, swap_bytes, cast_signed, cast_unsigned}
pub use Rattle.isa_model.proofs.NumberLaws.{alu_below, low_below, shift_below, width_fits, width_most, div_mono, reordered_below, span_fits, low_wrapped, low_difference}
pub use Rattle.isa_model.specs.Code.Numbers.{low, shift, signed, unsigned, result_of}
unfoldable pub use Rattle.isa_model.specs.Code.Numbers.{alu, sign_extended, reordered}
pub use Rattle.isa_model.specs.Code.Sizes.{width_bits, extension_bits, extension_width, span_bits}
pub use Rattle.isa_model.specs.declared.instructions.AluOp.TheVariants.{Arsh, Mul, Add, Sub, Lsh, Rsh}
pub use Rattle.known_bits.specs.Bits.{Has, IsSharp, greatest_of, KnowsProduct, spliced, SomePair}
pub use Rattle.known_bits.specs.Member.{IsMember, Occurs}
pub use Rattle.known_bits.specs.declared.bits.Bits.{Bits}
