-- The names that most proofs of this crate cite, passed on from one place. Declares nothing.
pub use Rattle.std.proofs.Common.{◌≡◌, ℕ, zero, suc, ◌^◌, ◌<◌, ◌==◌, Bool, true, false, ℤ, pos, ◌+ℤ◌, List, [], ◌∷◌, map, drop, length, slice_index_or, All, Option, Some, None, Ok, Err, IfOk, subst, arith, ◌≢◌, ◌+◌, ◌-◌, ◌≤◌, ◌++◌, take, AllPairs, sym, ap, ◌∙◌, length-append, append_assoc, if◌then◌else◌, slice_index, Result, ◌⊎◌, not, ◌&&◌, cond, nat_lt, nat_le, filter, is_some, T, inl, inr, slice_get, IsSomeAnd, replicate, slice_set, length-drop, Contains, add-suc, add-zero, fold, negsuc, ◌≤ℤ◌, add-one, zero-add, ◌-ℤ◌, unsigned_abs, rules}
pub use Rattle.std.proofs.Math.Nat.{mod-eq_of_lt, div-div-eq-div-mul, pow-succ', mod-le, mod-mod, div-le_self, div-mul-le_self}
pub use Rattle.std.proofs.Math.Seq.{take-append-add, drop-append_seam, take-append_seam, drop-append-add, map-set_same}
pub use Rattle.std.proofs.lemmas.Bool.{cases_lt, lt-ltb, le-ltb, or_parts, cases_order}
pub use Rattle.std.proofs.lemmas.Bool.Decides.{nat_tests}
pub use Rattle.std.proofs.lemmas.Int.{ints}
pub use Rattle.std.proofs.lemmas.List.{length-map, map-append, take-map, length-take-le, get_or-take, map-set, get_or-drop, get_or_past, length-take, length-replicate, length-set, take_at, drop_at, drop-drop}
pub use Rattle.std.proofs.lemmas.List.Elements.{All-nil, All-get_or, All-take, All-drop, All-weaker, All-push, All-replicate, All-from_recursion, All-head, All-tail, All-filter, at_from_Contains, All-cons, All-append, All-map, All-set}
pub use Rattle.std.proofs.lemmas.List.Quantifiers.{position-Some, all_pairs_push}
pub use Rattle.std.proofs.lemmas.Nat.{mod_below, le-div, pow_pos, or_lt, xor_lt, and_le_l, from_le_bytes-to_le_bytes_8}
pub use Rattle.std.proofs.lemmas.Option.{slice_get_within, get_or_from_slice_get, slice_get_past, same_Some}
pub use Rattle.std.specs.Cmp.Lexicographic.{nat_list_cmp_total}
pub use Rattle.std.specs.FinMap.Entries.{by_order, below_all, is_sorted, is_sorted-put, is_sorted-where_key, length-put, length_without, find-put, is_some-find}
pub use Rattle.std.specs.Int.{byte_at, bytes_low_first}
pub use Rattle.std.specs.List.{flat_map, list_any, range_with_len, AllByRecursion, list_all, splice}
pub use Rattle.std.specs.Option.{option_map, option_flatten, option_to_list}
pub use Rattle.std.specs.Ordering.{is_lt, is_eq}
pub use Rattle.std.specs.Prelude.{refl, unwrap_or}
pub use Rattle.std.specs.declared.cmp.Ordering.TheVariants.{Less, Equal, Greater}
pub use Rattle.byteorder.specs.Endian.{little_bytes, little_from, little_number}
pub use Rattle.isa_model.specs.Code.Instructions.{Program, fetch, reads, writes, is_frame_pointer, slots_filled}
pub use Rattle.isa_model.specs.Code.Limits.{max_call_frames, stack_size, max_body, max_packet, max_map_entries, offset_limit}
pub use Rattle.isa_model.specs.Code.MapRows.{IsRow, HoldsOffset, KeyFits, NamesRows}
pub use Rattle.isa_model.specs.Code.Numbers.{bytes_of, number_from, low, unsigned, atomic_alu, result_of, shift, negated, signed}
unfoldable pub use Rattle.isa_model.specs.Code.Numbers.{sign_extended, alu, reordered}
pub use Rattle.isa_model.specs.Code.Sizes.{size_bytes, width_size, unsigned_size, size_extension, width_bits, extension_bits, extension_width, span_bits}
pub use Rattle.isa_model.specs.Machine.Calls.{saved_registers, regs_within, regs_after, enter, callers, innermost, leave}
pub use Rattle.isa_model.specs.Machine.MachineStates.{AreBytes, IsKeyValue, FitRows, IsOffset, IsRegion, IsValue, IsCell, IsCallFrame, IsState, IsSlot, value_serials, live_serials, keys_of, KeysFit, FitsRow, IsClock, IsProgram, IsGiven}
pub use Rattle.isa_model.specs.Machine.MapContents.{update_answer, delete_answer, key_order, is_key, at_key, has_key, with_key, without_key, enoent, e2big, eexist, einval, noexist, exist, hash_update, array_update, update_answer_by, delete_answer_by}
pub use Rattle.isa_model.specs.Machine.Memory.{and_then, call_frame_index, index_of_serial, key_value_at, number_in, value_in, pieces, index_at, region_cells, place_of, cells_at, read, put, write, context_field, number_at, memory_load, load_from, load, load_number, load_signed, store_number, store_pointer, store, is_unwritten, is_byte, byte_in, index_from, place_in, put_call_frame, put_value, number_of, are_pieces, pointer_in}
pub use Rattle.isa_model.specs.Machine.States.{Stored, Content, KeyValues, key_values_of, State, content_of, call_frame_at, value_at, reg, frame_pointer, go_to, set_reg}
unfoldable pub use Rattle.isa_model.specs.Machine.States.{new_call_frame}
pub use Rattle.isa_model.specs.Machine.Steps.{base_of, swaps_in, fetched_into, StepResult, Next, Finished, Trapped, map_pointer, value_pointer, destination, sets, goes_on, branches, test_of, is_answer, finishes, is_unset, performed_at, one_serial, performed, operand_value, jumps, calls, exits, atomic_number}
unfoldable pub use Rattle.isa_model.specs.Machine.Steps.{act, step}
pub use Rattle.isa_model.specs.Running.Runs.{Progress, GoesOn, Ended, after_step, advanced, turn_of, Reaches, Runs, Outcome, HasOutcome, Turn, count_map_values, numbered, numbered_maps, start_regs}
unfoldable pub use Rattle.isa_model.specs.Running.Runs.{start_state, progress, turn}
pub use Rattle.isa_model.specs.declared.ends.TrapReason.{TrapReason}
pub use Rattle.isa_model.specs.declared.ends.TrapReason.TheVariants.{BadAccess, UnsetRead, ReadOnly, TooManyCallFrames, BadAction, BadPointer, OutOfRange}
pub use Rattle.isa_model.specs.declared.frames.FrameHead.{FrameHead}
pub use Rattle.isa_model.specs.declared.instructions.AluOp.TheVariants.{Add, Sub, Mul, Div, SignedDiv, Or, And, Lsh, Rsh, Mod, SignedMod, Xor, Mov, Arsh}
pub use Rattle.isa_model.specs.declared.instructions.Insn.{Insn}
pub use Rattle.isa_model.specs.declared.instructions.Insn.TheVariants.{Alu, Neg, MovSx, ByteSwap, LoadNumber, LoadMap, LoadMapValue, Load, LoadSx, StoreConstant, Store, Atomic, Exchange, CompareExchange, Jump, JumpLong, JumpIf, CallHelper, CallLocal, Exit}
pub use Rattle.isa_model.specs.declared.map_defs.MapDef.{MapDef}
pub use Rattle.isa_model.specs.declared.map_defs.MapType.{MapType}
pub use Rattle.isa_model.specs.declared.map_defs.MapType.TheVariants.{Hash, Array}
pub use Rattle.isa_model.specs.declared.registers.Reg.{Reg}
pub use Rattle.isa_model.specs.declared.registers.Reg.TheVariants.{R0, R1, R2, R3, R4, R10}
pub use Rattle.isa_model.specs.declared.sizes.Size.{Size}
pub use Rattle.isa_model.specs.declared.sizes.Size.TheVariants.{U8, U16, U32, U64}
pub use Rattle.isa_model.specs.declared.sizes.Width.{Width}
pub use Rattle.isa_model.specs.declared.sizes.Width.TheVariants.{Full64, Low32}
pub use Rattle.isa_model.specs.declared.values.CallFrame.{CallFrame}
pub use Rattle.isa_model.specs.declared.values.Cell.{Cell}
pub use Rattle.isa_model.specs.declared.values.Cell.TheVariants.{Byte, Unwritten, Piece}
pub use Rattle.isa_model.specs.declared.values.Region.{Region}
pub use Rattle.isa_model.specs.declared.values.Value.{Value}
pub use Rattle.isa_model.specs.declared.values.Value.TheVariants.{Unset, Num, Ptr}
pub use Rattle.isa_model.specs.declared.versions.Version.{Version}
