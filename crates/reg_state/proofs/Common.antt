-- The names that most proofs of this crate cite, passed on from one place. Declares nothing.
pub use Rattle.std.proofs.Common.{ℕ, ◌≡◌, inl, inr, arith, ◌^◌, ◌<◌, Bool, true, false, subst, ℤ, ◌≢◌, Option, Some, None, IfSome, if◌then◌else◌, nat_eq, slice_get, refl, sym, ◌∙◌, ◌<ℤ◌, ◌≤ℤ◌, ap, bit_and, int_lt, int_le, IsSomeAnd, ◌+◌, ◌-◌, ◌*◌, ◌≤◌, ◌%◌, ◌/◌}
pub use Rattle.std.proofs.lemmas.Bool.{ltb-true, ltb-false, leb-true, leb-false, eqb-true, eqb-false, not-true, not-false, lt-ltb, cases_lt}
pub use Rattle.std.proofs.lemmas.Int.{ints}
pub use Rattle.std.proofs.lemmas.Nat.{and_mask, pow-add, pow_pos, mod_below}
pub use Rattle.std.proofs.lemmas.Option.{IfSome_then, none-some, same_Some}
pub use Rattle.std.specs.Int.{w32, w64, cast_signed, cast_unsigned, bit_at}
pub use Rattle.isa_model.specs.Code.NumberLaws.{low_same}
pub use Rattle.isa_model.specs.Code.Numbers.{low, signed, compares}
unfoldable pub use Rattle.isa_model.specs.Code.Numbers.{alu, sign_extended, holds}
pub use Rattle.isa_model.specs.declared.sizes.Width.TheVariants.{Low32, Full64}
pub use Rattle.known_bits.proofs.MemberLaws.{bit_at-differing}
pub use Rattle.known_bits.specs.Bits.{Has, spliced}
pub use Rattle.reg_state.specs.Constants.{bits_constant_only, bits_constant_has, range_constant_has}
pub use Rattle.reg_state.specs.Going.{IsLimit, IsAlone, MayGo, exchanged}
pub use Rattle.reg_state.specs.KindCover.{KindCovers, packet_identity_of, null_identity_of, KindEncloses, IsNoNumber}
pub use Rattle.reg_state.specs.Limits.{range_limits, no_limits, Limits, bits_allows, range_allows}
pub use Rattle.reg_state.specs.Scalars.{allows}
pub use Rattle.reg_state.specs.declared.kinds.Kind.{Kind}
pub use Rattle.reg_state.specs.declared.kinds.Kind.TheVariants.{Unset, Number, Context, Stack, Packet, PacketEnd, Map, MapValue, MapValueOrNull}
