-- The names that most proofs of this crate cite, passed on from one place. Declares nothing.
pub use Rattle.std.proofs.Common.{◌≡◌, ℕ, ◌^◌, ◌<◌, ◌≤◌, refl, arith, ℤ, pos, negsuc, ◌+ℤ◌, ◌-ℤ◌, inl, inr, zero, suc, ◌+◌, ◌-◌, ◌/◌, List, [], ◌∷◌, ◌++◌, length, drop, map, replicate, sym, ap, subst, ◌∙◌, Ok, Err, Result, Bool, true, false, Some, get_or-set_same, get_or-set_other, length-set, slice_set, if◌then◌else◌, slice_index, slice_index_or, slice_get, nat_le, unsigned_abs, ◌==◌, take, cond, All, IfSome, Option, None, is_some, option_copied, ◌*◌, length-append, add-zero, add-one, ◌&&◌, not, T, ◌%◌, IfOk, mul-le-mul, ◌≢◌, zero-mul, IsSomeAnd, vec_capacity}
pub use Rattle.std.proofs.lemmas.Bool.{cases_lt, lt-ltb, le-ltb}
pub use Rattle.std.proofs.lemmas.Bool.Decides.{nat_tests}
pub use Rattle.std.proofs.lemmas.Int.{ints}
pub use Rattle.std.proofs.lemmas.List.{get_or-map, take_at, length-take-le, get_or-take, get_or_past, map-set, length-map, nil_from_length}
pub use Rattle.std.proofs.lemmas.List.Elements.{All-nil, All-cons, All-head, All-tail, All-weaker, All-get_or}
pub use Rattle.std.proofs.lemmas.Option.{slice_get-get_or, slice_get_within, get_or_from_slice_get}
pub use Rattle.std.specs.FinMap.{empty, get, remove, entries, entries_sorted, get-entries, get-remove, slice_cmp-IsAntisymmetric, nat_cmp-IsAntisymmetric, is_sorted, len, get-insert, len-entries}
pub use Rattle.std.specs.FinMap.Entries.{find, below_all}
pub use Rattle.std.specs.Int.{w16, w64, cast_signed, byte_at, bytes_low_first, to_le_bytes}
pub use Rattle.std.specs.Int.RustNames.{FitsSigned}
pub use Rattle.std.specs.List.{list_any, list_all, enumerate_from, splice}
pub use Rattle.std.specs.Option.{option_map}
pub use Rattle.flatmem.proofs.BytesLaws.{length-bytes_at, length-with_bytes, bytes_of_bytes, bytes_with, bytes_before, bytes_after}
pub use Rattle.flatmem.specs.Bytes.{bytes_at, with_bytes}
pub use Rattle.isa_model.proofs.StateLaws.{value_at_fits, reg_fits}
pub use Rattle.isa_model.proofs.ValueLaws.{All-splice, unsigned_fits, length-splice, bytes_of_fit}
pub use Rattle.isa_model.specs.{max_packet}
pub use Rattle.isa_model.specs.Code.Instructions.{Program, fetch, slots_filled, reads, writes, is_frame_pointer}
pub use Rattle.isa_model.specs.Code.Limits.{max_maps, offset_limit, stack_size, max_call_frames}
pub use Rattle.isa_model.specs.Code.MapRows.{KeyFits, IsRow, HoldsOffset, NamesRows}
pub use Rattle.isa_model.specs.Code.Numbers.{signed, unsigned, low, number_from, negated, atomic_alu, bytes_of}
unfoldable pub use Rattle.isa_model.specs.Code.Numbers.{alu, holds, sign_extended, reordered}
pub use Rattle.isa_model.specs.Code.Registers.{reg_number}
pub use Rattle.isa_model.specs.Code.Sizes.{size_bytes, unsigned_size, size_extension, width_size}
pub use Rattle.isa_model.specs.Machine.HelperCalls.{helper_call, after_call}
pub use Rattle.isa_model.specs.Machine.MachineStates.{IsOffset, IsRegion, IsValue, IsState, FitRows, IsKeyValue, IsCell, IsCallFrame, value_serials, AreBytes, IsProgram, IsClock, IsGiven}
pub use Rattle.isa_model.specs.Machine.MapContents.{key_order, is_key, at_key, update_answer, delete_answer, after_update, after_delete, with_key, without_key, has_key, update_answer_by, delete_answer_by}
pub use Rattle.isa_model.specs.Machine.MapHelpers.{Helped, pointer_or_zero, put_bytes, remove_key, map_lookup_elem, map_update_elem, map_delete_elem, serial_given, serial_after}
pub use Rattle.isa_model.specs.Machine.Memory.{and_then, is_unwritten, is_byte, byte_in, index_at, read, number_of, number_in, value_in, pointer_in, pieces, is_piece, are_pieces, same_region, same_int, key_value_at, load, load_signed, store, load_number, store_number}
pub use Rattle.isa_model.specs.Machine.Pointers.{pointer_at, can_move, moved_to, pointer_and_number, number_and_pointer, combined, arithmetic, compared, compared_constant, packet_order, pointer_order, null_test, on_number}
pub use Rattle.isa_model.specs.Machine.States.{State, value_at, go_to, KeyValues, reg, call_frame_at, Content, content_of, Stored, key_values_of, set_reg}
unfoldable pub use Rattle.isa_model.specs.Machine.States.{new_call_frame}
pub use Rattle.isa_model.specs.Machine.Steps.{one_serial, value_pointer, StepResult, Next, Finished, Trapped, operand_value, base_of, destination, map_pointer, sets, goes_on, jumps, branches, test_of, calls, is_answer, finishes, exits, atomic_number, swaps_in, fetched_into, is_unset, performed_at, tested}
unfoldable pub use Rattle.isa_model.specs.Machine.Steps.{act, step}
pub use Rattle.isa_model.specs.declared.ends.TrapReason.{TrapReason}
pub use Rattle.isa_model.specs.declared.ends.TrapReason.TheVariants.{UnsetRead, BadAccess, BadHelper, OutOfRange, BadCompare, ReadOnly, TooManyCallFrames, BadAction, BadPointer}
pub use Rattle.isa_model.specs.declared.frames.FrameHead.{FrameHead}
pub use Rattle.isa_model.specs.declared.instructions.AluOp.TheVariants.{Add, Sub, Mov}
pub use Rattle.isa_model.specs.declared.map_defs.MapDef.{MapDef}
pub use Rattle.isa_model.specs.declared.map_defs.MapType.TheVariants.{Hash, Array}
pub use Rattle.isa_model.specs.declared.registers.Reg.{Reg}
pub use Rattle.isa_model.specs.declared.registers.Reg.TheVariants.{R1, R0, R2, R3, R4}
pub use Rattle.isa_model.specs.declared.sizes.Size.{Size}
pub use Rattle.isa_model.specs.declared.sizes.Size.TheVariants.{U8, U16, U32, U64}
pub use Rattle.isa_model.specs.declared.sizes.Width.{Width}
pub use Rattle.isa_model.specs.declared.sizes.Width.TheVariants.{Full64, Low32}
pub use Rattle.isa_model.specs.declared.values.Cell.{Cell}
pub use Rattle.isa_model.specs.declared.values.Cell.TheVariants.{Unwritten, Byte, Piece}
pub use Rattle.isa_model.specs.declared.values.Region.{Region}
pub use Rattle.isa_model.specs.declared.values.Value.{Value}
pub use Rattle.isa_model.specs.declared.values.Value.TheVariants.{Unset, Num, Ptr}
pub use Rattle.map_indexes.specs.BlockRowLaws.{block_row-written, block_row-other, row_end, length-block_row, splice_in_row, length-changed_row}
pub use Rattle.map_indexes.specs.BlockRows.{with_block_row, block_row}
pub use Rattle.map_indexes.specs.PlaceKeys.{Places}
pub use Rattle.maps.proofs.MapLaws.{length-rows_of, FitsRow-IsMap, FitRows-IsMap, contents_of-at, contents_of-set, rows_of-set}
pub use Rattle.maps.specs.ContentLaws.{changed, find-changed, is_sorted-changed, length-changed}
pub use Rattle.maps.specs.Maps.{map_at, MapState, IsMap, Updated, Deleted, content_in, ordered_in, rows_of, contents_of, with_block}
pub use Rattle.word_machine.specs.Addresses.{region_of, map_base, packet_base, frame_end, values_base, region_size, context_base, packet_index, block_index, first_frame, frames_size}
pub use Rattle.word_machine.specs.Runs.{IsLast, Exits, EndsInTime, CanStepTo, WordsStepTo}
unfoldable pub use Rattle.word_machine.specs.Runs.{EndsSafely, WordsReach}
pub use Rattle.word_machine.specs.Words.{Words, saved_at, kept_words, regs_back, word_enter, word_leave, word_at, spot_of, IsInside, area, index_of, set_word, word_operand, at_slot, address_of, word_from, word_tested, number_at, CanLoad, put}
pub use Rattle.word_machine.specs.declared.memory.Saved.{Saved}
pub use Rattle.machine.specs.BetweenRuns.{row_at, content_at, ordered_at, with_content, key_or, value_or, AnswersUpdate, AnswersDelete, CopiesKeyValue}
pub use Rattle.machine.specs.Ready.{IsReady, IsVersioned}
pub use Rattle.machine.specs.Related.{Layout, IsLayout, region_start, moved, word, Represents, RepresentsCells, RepresentsRegisters, Related, RepresentsFrame, RepresentsSaved, RepresentsFrames, RepresentsCell, by_place, by_serial, RepresentsMap, RepresentsMaps}
pub use Rattle.machine.specs.Running.{Running, RunsWithinBound, ReturnsOutcome}
pub use Rattle.machine.specs.Starting.{start_of, start_words}
