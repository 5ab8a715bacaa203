-- The names that most proofs of this crate cite, passed on from one place. Declares nothing.
pub use Rattle.std.proofs.Common.{ℤ, length, Ok, sym, subst, ◌≡◌, ◌≢◌, ◌⊎◌, ℕ, ◌%◌, ◌^◌, ◌≤◌, nat_le, bit_or, Bool, true, false, ◌||◌, if◌then◌else◌, Err, inl, inr, ◌∙◌, arith, ◌+ℤ◌, slice_get, Option, Some, None, Result, ap, IsTrue, zero, suc, ◌+◌, ◌==◌, All, [], ◌∷◌, ◌++◌, ◌<◌, pos, ◌&&◌, List, map, take, drop, IfOk, ◌-◌, ◌*◌, negsuc, ◌≤ℤ◌, FitsSigned, ◌-ℤ◌, unsigned_abs, ◌/◌, nat_lt, cond, slice_set, slice_index_or, Contains, IsSomeAnd, rules, w16, w32, unwrap_or, w64}
pub use Rattle.std.proofs.lemmas.Bool.{le-leb, or_parts, cases_lt}
pub use Rattle.std.proofs.lemmas.Bool.Decides.{nat_tests}
pub use Rattle.std.proofs.lemmas.Int.{ints, to_z-of_z, to_z_pos}
pub use Rattle.std.proofs.lemmas.List.{length-map, length-take-le, length-drop, map-append, get_or-set_same}
pub use Rattle.std.specs.Int.{cast_signed}
pub use Rattle.std.specs.List.{list_any, list_all, splice, position_or_len}
pub use Rattle.std.specs.Prelude.{refl}
pub use Rattle.branch_refine.specs.Refining.{IsJust, Narrows, LearnsOf, Refines, IsNumberKind}
unfoldable pub use Rattle.branch_refine.specs.Refining.{KeepsMembers}
pub use Rattle.isa_model.proofs.AccessLaws.{store_keeps, store_number_keeps}
pub use Rattle.isa_model.proofs.ByteCells.{list_all-is_byte-Byte, take-drop-Byte, number_in-Byte, value_in-Byte}
pub use Rattle.isa_model.proofs.HelperLaws.{row_within, content_fits, has_value}
pub use Rattle.isa_model.proofs.StateLaws.{reg_fits, put_value_serials}
pub use Rattle.isa_model.proofs.ValueLaws.{unsigned_fits, slice_index_fits, length-splice}
pub use Rattle.isa_model.specs.Code.Helpers.{helper_numbered}
pub use Rattle.isa_model.specs.Code.Instructions.{Program, is_frame_pointer, writes, fetch, slots_filled, reads, operand_reads, alu_reads}
pub use Rattle.isa_model.specs.Code.Limits.{max_call_frames, stack_size, offset_limit, max_value_size}
pub use Rattle.isa_model.specs.Code.MapRows.{IsRow, NamesRows, HoldsOffset}
pub use Rattle.isa_model.specs.Code.Numbers.{low, unsigned, atomic_alu, bytes_of, number_from, signed, negated}
unfoldable pub use Rattle.isa_model.specs.Code.Numbers.{alu, sign_extended, reordered}
pub use Rattle.isa_model.specs.Code.Sizes.{size_bytes, width_size, unsigned_size, size_extension}
pub use Rattle.isa_model.specs.Machine.HelperCalls.{helper_call, after_call, MapArgument, map_of_row, map_argument, BytesArgument, bytes_argument, number_argument, bytes_in, bytes_at, lookup_call, update_call, delete_call, ktime_get_ns, answered}
pub use Rattle.isa_model.specs.Machine.MachineStates.{IsValue, IsClock, IsProgram, IsState, IsCallFrame, AreBytes, IsKeyValue, value_serials, keys_of}
pub use Rattle.isa_model.specs.Machine.Memory.{load, load_signed, store, and_then, load_number, store_number, is_byte, byte_in, index_from, index_at, key_value_at, read, as_number, index_of_serial, put_value}
pub use Rattle.isa_model.specs.Machine.Pointers.{moved_to, moved, combined, arithmetic, pointer_at, on_number}
pub use Rattle.isa_model.specs.Machine.States.{reg, set_reg, content_of, call_frame_at, Stored, Content, key_values_of}
unfoldable pub use Rattle.isa_model.specs.Machine.States.{new_call_frame}
pub use Rattle.isa_model.specs.Machine.Steps.{is_answer, is_unset, base_of, swaps_in, atomic_number, Next, Trapped, destination, goes_on, jumps, branches, test_of, calls, fetched_into, finishes, exits, performed_at, performed, map_pointer, value_pointer, operand_value, sets, one_serial, target}
unfoldable pub use Rattle.isa_model.specs.Machine.Steps.{act, step}
pub use Rattle.isa_model.specs.declared.ends.TrapReason.{TrapReason}
pub use Rattle.isa_model.specs.declared.instructions.AluOp.TheVariants.{Mov, Add, Sub}
pub use Rattle.isa_model.specs.declared.instructions.Cond.{Cond}
pub use Rattle.isa_model.specs.declared.instructions.Insn.{Insn}
pub use Rattle.isa_model.specs.declared.instructions.Insn.TheVariants.{Alu, Neg, MovSx, ByteSwap, LoadNumber, LoadMap, LoadMapValue, Load, LoadSx, StoreConstant, Store, Atomic, Exchange, CompareExchange, Jump, JumpLong, JumpIf, CallHelper, CallLocal, Exit}
pub use Rattle.isa_model.specs.declared.map_defs.MapDef.{MapDef}
pub use Rattle.isa_model.specs.declared.registers.Reg.{Reg}
pub use Rattle.isa_model.specs.declared.registers.Reg.TheVariants.{R0, R10, R1, R2, R3, R4}
pub use Rattle.isa_model.specs.declared.sizes.SignedSize.{SignedSize}
pub use Rattle.isa_model.specs.declared.sizes.Size.{Size}
pub use Rattle.isa_model.specs.declared.sizes.Size.TheVariants.{U8, U16, U32, U64}
pub use Rattle.isa_model.specs.declared.sizes.Width.{Width}
pub use Rattle.isa_model.specs.declared.sizes.Width.TheVariants.{Low32, Full64}
pub use Rattle.isa_model.specs.declared.values.Cell.{Cell}
pub use Rattle.isa_model.specs.declared.values.Cell.TheVariants.{Byte}
pub use Rattle.isa_model.specs.declared.values.Value.{Value}
pub use Rattle.isa_model.specs.declared.values.Value.TheVariants.{Ptr, Num}
pub use Rattle.reg_state.proofs.ConstantsLaws.{IsNumber-only}
pub use Rattle.reg_state.specs.Kinds.{Assigned, Allows, AllowsMapValue, AllowsPacket, AllowsOrNull, HasLiveValue}
pub use Rattle.reg_state.specs.Scalars.{Has, IsConstant, IsNumber}
pub use Rattle.reg_state.specs.declared.kinds.Kind.{Kind}
pub use Rattle.reg_state.specs.declared.kinds.Kind.TheVariants.{Context, Stack, Packet, MapValue, Number, Map, MapValueOrNull, Unset, PacketEnd}
pub use Rattle.reg_state.specs.declared.scalars.Scalar.{Scalar}
pub use Rattle.stack_state.proofs.CellLaws.{none_unwritten, length-bytes_of, number_from_below}
pub use Rattle.stack_state.proofs.EffectLaws.{IfLeft, frames_of-with_frame, MeansBy-loads, MeansBy-fills, MeansBy-stores, MeansBy-spills}
pub use Rattle.stack_state.proofs.MeaningLaws.{reg_allowed, MeansBy-set, depth_is_length, MeansBy-go_to, returns-with, MeansBy-fresh}
pub use Rattle.stack_state.specs.Meaning.{MeansBy, stack_slots_of, AssignmentFits, frames_of, abstract_frame_at, no_frame, depth}
unfoldable pub use Rattle.stack_state.specs.Meaning.{Means}
pub use Rattle.stack_state.specs.Places.{kind_of, go_to, with_register}
pub use Rattle.stack_state.specs.Slots.{slot_at, IsLoad, IsFill, AreMarked}
pub use Rattle.stack_state.specs.StackMeaning.{part_of, with_maps}
unfoldable pub use Rattle.stack_state.specs.StackMeaning.{LoadsNumber, LoadsSlot}
pub use Rattle.stack_state.specs.declared.states.State.{State}
pub use mir.Val.{SFits, to_z, of_z}
pub use Rattle.transfer.specs.Beside.{keeps_callers, beside}
pub use Rattle.transfer.specs.Exact.{shows_action, exit_result, SetsOrRefuses, StepsForm, Steps, GoesOn, StoresAt, SwapsAtPlace, ComparesAtPlace, Sides, Branches, StepsJump, StepsCall, ExitsFrom, Tested, SetsRegister, OperandKind, ResultKind}
pub use Rattle.transfer.specs.HelperCalls.{CallsHelper, map_with_row, called_map, is_number, judged, AreInFrame, AreKnown, points_to_bytes, key_arguments, update_arguments, KeyIsKnown, ValueIsKnown, AnswersNumber, AnswersValue, without_values, LeavesIf, StepsHelper}
pub use Rattle.transfer.specs.Leading.{InSome, EachWay}
unfoldable pub use Rattle.transfer.specs.Leading.{LeadsTo}
pub use Rattle.transfer.specs.Packets.{AreInPacket, IsOfSize, IsOfSignedSize, IsNumberOf, PacketLoads, PacketLoadsSigned, PacketStores, moved_by, lowest, highest, AreOffsets, StaysProved, IsFreshPointer, least_part, greatest_part, IsMovedVariable, IsMovedBetween, IsMovedFixed, IsMovedBy, PacketMoves, AreOffsetParts, OffsetsHaveRoom, MovesBy}
pub use Rattle.transfer.specs.Refusing.{reads_unset, is_untested}
pub use Rattle.transfer.specs.Results.{packet_pointer, IsLowNumber, OfNumber, moved_offset, MovesPointer, PointerAndNumber, NumberAndPointer, NumberAnd, PointerAnd, Combined, Copied, Arithmetic, IsNumber32, LeavesNumber, moved_frame}
pub use Rattle.transfer.specs.StackAccesses.{IsLeft, IsFramePlace, IsNumberLoad, IsStackLoad, IsSignedLoad, StackLoads, StackLoadsSigned, whole_or, store_refusal, StackStores}
pub use Rattle.transfer.specs.Values.{value_size, AreInValue, ValueLoads, ValueLoadsSigned, ValueStores, NamesFit, nearest, farthest, moved_least, moved_greatest, ValueMoves}
pub use Rattle.transfer.specs.declared.Ways.{Ways}
pub use Rattle.transfer.specs.declared.helpers.CalledMap.{CalledMap}
pub use Rattle.transfer.specs.declared.refusals.Refusal.{Refusal}
pub use Rattle.transfer.specs.declared.refusals.Refusal.TheVariants.{ExitValue, NoAction, UnsetRegister, ReadOnlyRegister, PointerOffset, NullNotTested, PointerStored}
