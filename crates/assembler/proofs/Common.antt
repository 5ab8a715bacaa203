-- The names that most proofs of this crate cite, passed on from one place. Declares nothing.
pub use Rattle.std.proofs.Common.{◌≡◌, ◌≢◌, ℕ, ◌+◌, ◌<◌, false, true, List, [], ◌∷◌, take, length, get_or, refl, ap, ◌∙◌, arith, ne_eqb, eq-eqb, ◌==◌, reverse, suc, ◌*◌, ◌≤◌, ◌^◌, ◌++◌, drop, lt-ltb, le-ltb, zero-add, lit≤, Some, Bool, slice_index, decimal, nat_lt, ◌&&◌, if◌then◌else◌, le-leb, None, Result, Ok, nat_le, ℤ, pos, negsuc, ◌-◌, sym, subst, append_assoc, Option, zero, ◌||◌, Err, cond, map, ap₂, lit<, codes, slice_get, inl, inr, is_ok, is_none, IsSomeAnd, slice_set, ◌⊎◌, IfSome, ok_or, option_and_then, eq-zero-or-pos, count_by, not, option_map, is_some, neg_ℤ, append-nil, slice_range, le_of_eq, rules, slice_index_or, IfErr, string_bytes}
pub use Rattle.std.proofs.Math.Seq.{take-append_seam, take-append-add}
pub use Rattle.std.proofs.lemmas.Bool.{eqb-true, cases_Bool}
pub use Rattle.std.proofs.lemmas.List.{take_more, reverse-append, get_or_at, length-drop, drop-drop, take-append-drop, drop-append-le, take-take, take-append-le, length-append, length-map, length-take-le, drop_more, get_or-map, length-reverse, map-append, take-map, take_all, drop_all, take_min, get_or_default, drop-map, take_rest}
pub use Rattle.std.proofs.lemmas.List.Sums.{prefix_len-le-length, sum_by-append, sum_by-cons}
pub use Rattle.std.proofs.lemmas.Option.{slice_get-map, slice_get_read, slice_get_past}
pub use Rattle.std.specs.Char.{digit_value, is_digit}
pub use Rattle.std.specs.Fmt.{digits, signed_decimal}
pub use Rattle.std.specs.Int.{w16, w32}
pub use Rattle.std.specs.Int.RustNames.{FitsSigned}
pub use Rattle.std.specs.List.{prefix_len}
pub use Rattle.image.specs.Refusals.{is_array, count_refusal, row_fits}
pub use Rattle.isa_model.specs.Code.Instructions.{Program, slots, slots_filled}
pub use Rattle.isa_model.specs.Code.MapRows.{HoldsOffset, NamesRows, KeyFits, IsRow}
pub use Rattle.isa_model.specs.Code.Sizes.{width_bits, width_size}
pub use Rattle.isa_model.specs.Code.Spelling.{OperandFits, InsnFits}
pub use Rattle.isa_model.specs.Text.CanonicalText.{extension_width, reg_text, extension_text, span_text, order_text, op_text, comparison_text, operand_text, distance_text, map_type_text, size_text, signed_text, width_text, atomic_text, fetch_text, offset_text}
unfoldable pub use Rattle.isa_model.specs.Text.CanonicalText.{line_of, row_line}
pub use Rattle.isa_model.specs.declared.instructions.AluOp.{AluOp}
pub use Rattle.isa_model.specs.declared.instructions.AtomicOp.{AtomicOp}
pub use Rattle.isa_model.specs.declared.instructions.Comparison.{Comparison}
pub use Rattle.isa_model.specs.declared.instructions.Insn.{Insn}
pub use Rattle.isa_model.specs.declared.instructions.Insn.TheVariants.{Alu, Neg, MovSx, ByteSwap, LoadNumber, Load, LoadSx, StoreConstant, Store, Atomic, Exchange, CompareExchange, Jump, JumpLong, JumpIf, CallHelper, CallLocal, Exit, LoadMap, LoadMapValue}
pub use Rattle.isa_model.specs.declared.instructions.Operand.{Operand}
pub use Rattle.isa_model.specs.declared.instructions.Operand.TheVariants.{Constant, Register}
pub use Rattle.isa_model.specs.declared.instructions.Place.{Place}
pub use Rattle.isa_model.specs.declared.map_defs.MapDef.{MapDef}
pub use Rattle.isa_model.specs.declared.map_defs.MapType.{MapType}
pub use Rattle.isa_model.specs.declared.registers.Reg.{Reg}
pub use Rattle.isa_model.specs.declared.registers.Reg.TheVariants.{R0, R1, R2, R3, R4, R5, R6, R7, R8, R9, R10}
pub use Rattle.isa_model.specs.declared.sizes.ByteOrder.{ByteOrder}
pub use Rattle.isa_model.specs.declared.sizes.Extension.{Extension}
pub use Rattle.isa_model.specs.declared.sizes.Extension.TheVariants.{Low8, Low16, Full8, Full16, Full32}
pub use Rattle.isa_model.specs.declared.sizes.SignedSize.{SignedSize}
pub use Rattle.isa_model.specs.declared.sizes.Size.{Size}
pub use Rattle.isa_model.specs.declared.sizes.SwapWidth.{SwapWidth}
pub use Rattle.isa_model.specs.declared.sizes.Width.{Width}
pub use Rattle.isa_model.specs.declared.sizes.Width.TheVariants.{Low32, Full64}
pub use Rattle.isa_model.specs.declared.versions.Version.TheVariants.{Two, One}
pub use Rattle.assembler.specs.Assembling.{ReadSoFar, start, read_on, program_in, error_in, TokenSpan, offset_or, begins_at, refusal_of, at_end_behind, at_end, accept, next_lexeme, has_room, refused_at, unless_wrong, unless_refused, is_first, ended, is_one, with_insn, with_use, name_span, added, named_by, named, finished, program_of, refused_by, IsAsWanted}
unfoldable pub use Rattle.assembler.specs.Assembling.{assembled}
pub use Rattle.assembler.specs.Drafts.{accept_short, ChangesNothing, with_statement, cut, shortened, pushed, progress_of, span_of}
pub use Rattle.assembler.specs.Fronts.{shifted, IsBelow, ReadsOn, shifted_span, shifted_use, IsTextFront}
pub use Rattle.assembler.specs.Hints.{begins, has, has_any, lent_word, lent_row, by_beginning, without_form}
unfoldable pub use Rattle.assembler.specs.Hints.{hint_in}
pub use Rattle.assembler.specs.Labelled.{begins_map_line, begins_version_line, version_line, version_number, spelled, spelled_behind, fits_form, zeroed, has_form, is_label, label_length}
pub use Rattle.assembler.specs.Labels.{label_of, with_label, slot_in}
pub use Rattle.assembler.specs.Lexing.{is_line_byte, lexeme_at, number_end, number_end_at, number_end_from, unknown_at, token_length, is_word_byte, digits_number, number_after}
pub use Rattle.assembler.specs.MapTests.{objection_to_value, objection_to_load, takes_row, objection}
pub use Rattle.assembler.specs.Naming.{NameUse, use_of, aim, aim_used, put, resolved, is_near, aimed, or_too_far, distance}
pub use Rattle.assembler.specs.Operands.{atomic_op_of, comparison_of, width_of, ◌>>=◌, number_at, word_at, as_map_type, field_at, keep, token_at, sign_at, expect_at, memory_at, register_at, operand_at, signed_at, target_at, as_register, as_size, constant_at, op_of, extension_of, wide_within, place_at, argument_at, as_signed_size, is_name, target_token, is_by_index, index_at, by_index_at, is_minus, signed_within, again_at, same_register, as_sign, as_number, as_word, is_sign, number_index, same_width, operand_token}
pub use Rattle.assembler.specs.Positions.{column_behind, line_behind, error_at}
pub use Rattle.assembler.specs.Shown.{after_lines, padding_byte, shown_byte}
pub use Rattle.assembler.specs.Spells.{assigns, changes, compares, extends, SpellsConstant, IsWide, IsOperand, IsTarget, reg, IsSigned, memory, field, place}
unfoldable pub use Rattle.assembler.specs.Spells.{Spells}
pub use Rattle.assembler.specs.Statements.{arithmetic, map_line, plain, stored_token, stored, locked, jump, long_jump, is_goto, goto_at, condition, tested, called_word, called, by_word, by_token, is_wide, wide_at, wide, negated, extended, load_of, loaded, swapped, exchanged_place, fetched, exchanged, compared, map_loaded, map_value_loaded, moved_word, moved, assigned_by, assigned}
unfoldable pub use Rattle.assembler.specs.Statements.{reading_of}
pub use Rattle.assembler.specs.declared.errors.AsmError.{AsmError}
pub use Rattle.assembler.specs.declared.errors.AsmErrorKind.{AsmErrorKind}
pub use Rattle.assembler.specs.declared.errors.AsmErrorKind.TheVariants.{NoForm, NotDefined, MapLine, LateVersion, SlotCount, UnknownByte, OutOfRange, DefinedTwice, TooFar, NoMap, NotOneValue, PastValue}
pub use Rattle.assembler.specs.declared.names.Use.{Use}
pub use Rattle.assembler.specs.declared.readings.Reading.{Reading}
pub use Rattle.assembler.specs.declared.readings.Statement.{Statement}
pub use Rattle.assembler.specs.declared.readings.Statement.TheVariants.{Empty, Row, Instruction, Version}
pub use Rattle.assembler.specs.declared.refusals.Refusal.{Refusal}
pub use Rattle.assembler.specs.declared.tokens.Lexeme.{Lexeme}
pub use Rattle.assembler.specs.declared.tokens.Lexeme.TheVariants.{Solid, Blank, End}
pub use Rattle.assembler.specs.declared.tokens.Sign.{Sign}
pub use Rattle.assembler.specs.declared.tokens.Token.{Token}
pub use Rattle.assembler.specs.declared.tokens.Token.TheVariants.{Number, Named, Signed}
pub use Rattle.assembler.specs.declared.tokens.Word.{Word}
pub use Rattle.assembler.specs.declared.wrong.Objection.{Objection}
pub use Rattle.assembler.specs.declared.wrong.Wrong.{Wrong}
pub use Rattle.assembler.specs.declared.wrong.Wrong.TheVariants.{Form, Range}
