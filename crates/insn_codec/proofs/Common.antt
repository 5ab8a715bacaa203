-- The names that most proofs of this crate cite, passed on from one place. Declares nothing.
pub use Rattle.std.proofs.Common.{◌≡◌, ℕ, ◌+◌, ◌*◌, ◌/◌, ◌%◌, ◌^◌, ◌<◌, Bool, true, false, cond, ℤ, List, ◌++◌, length, Option, Some, Result, Ok, Err, refl, ap, ◌∙◌, arith, nat_lt, subst, ◌==◌, None, sym, inl, inr, ◌||◌, ◌⊎◌, ◌≤◌, [], ◌∷◌, take, drop, take-add, not, pos, negsuc, append-nil, drop-drop, take_all, slice_index, IfOk}
pub use Rattle.std.proofs.lemmas.Bool.{le-ltb, agree_below_at, eqb-true, and_parts, ltb-false, not-false}
pub use Rattle.std.specs.Int.{w16, w32, cast_signed, cast_unsigned}
pub use Rattle.std.specs.Int.RustNames.{FitsSigned}
pub use Rattle.byteorder.specs.Endian.{little_number, little_bytes}
pub use Rattle.byteorder.specs.Numbers.{little_number-reads_back, little_from-lt}
pub use Rattle.isa_model.specs.Code.Registers.{reg_numbered, reg_number}
pub use Rattle.isa_model.specs.Code.Sizes.{span_bits}
pub use Rattle.isa_model.specs.Code.Spelling.{alu_code, alu_offset, alu_class, jump_class, jump_code, extension_class, extension_offset, order_opcode, size_code, signed_code, atomic_opcode, atomic_code, fetch_bit, first_slot, next_imm, second_bytes, InsnFits, OperandFits, slot, slot_bytes, spelling_of, operand_imm}
pub use Rattle.isa_model.specs.declared.instructions.AluOp.{AluOp}
pub use Rattle.isa_model.specs.declared.instructions.Insn.{Insn}
pub use Rattle.isa_model.specs.declared.instructions.Insn.TheVariants.{Alu, Neg, MovSx, ByteSwap, LoadNumber, LoadMap, LoadMapValue, Load, LoadSx, StoreConstant, Store, Atomic, Exchange, CompareExchange, Jump, JumpLong, JumpIf, CallHelper, CallLocal, Exit}
pub use Rattle.isa_model.specs.declared.instructions.Operand.TheVariants.{Constant, Register}
pub use Rattle.isa_model.specs.declared.registers.Reg.{Reg}
pub use Rattle.isa_model.specs.declared.registers.Reg.TheVariants.{R0, R1, R5, R6}
pub use Rattle.isa_model.specs.declared.sizes.Extension.{Extension}
pub use Rattle.isa_model.specs.declared.sizes.Extension.TheVariants.{Low8, Low16, Full8, Full16, Full32}
pub use Rattle.isa_model.specs.declared.sizes.SwapWidth.{SwapWidth}
pub use Rattle.isa_model.specs.declared.sizes.SwapWidth.TheVariants.{B16, B32, B64}
pub use Rattle.isa_model.specs.declared.sizes.Width.{Width}
pub use Rattle.isa_model.specs.declared.slots.Slot.{Slot}
pub use Rattle.insn_codec.specs.Decoding.{next_imm_read, wide_by, meaning, with_form, with_dst, with_src, op_selected, extension_selected, span_selected, selected, with_next, with_fields, atomic, called_by, moved, swapped, constant_in, place_in, slot_at, sized}
unfoldable pub use Rattle.insn_codec.specs.Decoding.{slot_meaning, decoded}
pub use Rattle.insn_codec.specs.Forms.{form_of, uses, zero_unused, has_selector, is_r0}
pub use Rattle.insn_codec.specs.declared.errors.CodecError.{CodecError}
pub use Rattle.insn_codec.specs.declared.forms.AluCode.{AluCode}
pub use Rattle.insn_codec.specs.declared.forms.Form.{Form}
