-- The names that most proofs of this crate cite, passed on from one place. Declares nothing.
pub use Rattle.std.proofs.Common.{◌≡◌, ◌≤◌, ◌<◌, ◌+◌, ◌++◌, ◌∷◌, [], ℕ, List, length, take, drop, map, replicate, set, get_or, ap, sym, arith, ◌∙◌, zero, suc, ◌-◌, slice_get, slice_index_or, Option, Some, None, subst, inl, inr, ◌≢◌, ◌*◌, ◌/◌, ◌%◌, ◌^◌, ℤ, pos, negsuc, true, false, Ok, ◌⊎◌, bit_or, ◌==◌, slice_set, All, Result, if◌then◌else◌, Bool, ◌+ℤ◌, nat_le, nat_lt, nat_eq, Contains, ◌≤ℤ◌, max, slice_index, IfSome, length-set, rules, w64, FitsSigned, T}
pub use Rattle.std.proofs.Math.Nat.{div-div-eq-div-mul, div-le_self, mod-eq_of_lt, pow-succ', add-zero, pow-le-pow_right}
pub use Rattle.std.proofs.lemmas.Bool.{cases_lt, cases_eq, le-leb}
pub use Rattle.std.proofs.lemmas.Bool.Decides.{nat_tests}
pub use Rattle.std.proofs.lemmas.Grind.{common_steps}
pub use Rattle.std.proofs.lemmas.List.{replicate_more, append_assoc, set-append_right, drop-set, drop-set-add, ext_get_or, get_or-replicate, get_or-take, get_or-set_other, get_or-map, length-map, length-replicate, length-take-le, take-append-drop, length-append, map-append, get_or_append_left, get_or-append_right, take-map, take_all, take-append-le, get_or-drop, get_or_past, get_or-set_same, set-get_or, length-drop, same_lists, drop-take, drop-drop, take-take, length-take, get_or_default, drop_all, append-nil, nil_from_length}
pub use Rattle.std.proofs.lemmas.List.Edits.{map_over_more}
pub use Rattle.std.proofs.lemmas.List.Elements.{All-contains_itself, Contains-append_left, Contains-append_right, Contains-append_cases, All-take, All-drop}
pub use Rattle.std.proofs.lemmas.Nat.{from_le_bytes-to_le_bytes_8, pow-add, le_bytes_8, mul-add-lt, mod-mul-add, div-mul-add}
pub use Rattle.std.proofs.lemmas.Nat.Bits.{bit_at_or, bit_at-lt, bit_at_mask_above, bit_at_mask_below, bit_at_ones}
pub use Rattle.std.proofs.lemmas.Option.{slice_get_within, get_or_from_slice_get, slice_get-get_or}
pub use Rattle.std.specs.Int.{bit_at, byte_at, bytes_low_first, w32}
pub use Rattle.std.specs.List.{list_any, list_all, flat_map, position_or_len}
pub use Rattle.std.specs.Prelude.{refl}
pub use Rattle.isa_model.proofs.ValueLaws.{bytes_in_fit, bytes_of_fit, slice_index_fits, number_of_fits, length-splice}
pub use Rattle.isa_model.specs.Code.EachByte.{EachByte}
pub use Rattle.isa_model.specs.Code.Instructions.{Program}
pub use Rattle.isa_model.specs.Code.Limits.{stack_size}
pub use Rattle.isa_model.specs.Code.Numbers.{bytes_of, number_from}
pub use Rattle.isa_model.specs.Code.Sizes.{size_bytes}
pub use Rattle.isa_model.specs.Machine.Calls.{saved_registers, regs_within, enter, innermost, leave, regs_after, callers}
pub use Rattle.isa_model.specs.Machine.MachineStates.{IsState, IsCell, IsCallFrame, value_serials, IsValue, IsSlot, IsProgram, IsGiven}
pub use Rattle.isa_model.specs.Machine.Memory.{is_unwritten, is_byte, number_of, number_in, pieces, value_in, same_region, same_int, load, load_number, store, call_frame_index, index_from, index_at, read, write, byte_in}
pub use Rattle.isa_model.specs.Machine.States.{value_at, call_frame_at, frame_pointer, Content, Stored, content_of, key_values_of, reg, set_reg, KeyValues}
unfoldable pub use Rattle.isa_model.specs.Machine.States.{new_call_frame}
pub use Rattle.isa_model.specs.declared.sizes.Size.{Size}
pub use Rattle.isa_model.specs.declared.sizes.Size.TheVariants.{U8, U16, U32, U64}
pub use Rattle.isa_model.specs.declared.values.CallFrame.{CallFrame}
pub use Rattle.isa_model.specs.declared.values.Cell.{Cell}
pub use Rattle.isa_model.specs.declared.values.Cell.TheVariants.{Unwritten, Byte, Piece}
pub use Rattle.isa_model.specs.declared.values.Value.{Value}
pub use Rattle.isa_model.specs.declared.values.Value.TheVariants.{Num, Ptr}
pub use Rattle.reg_state.specs.Kinds.{Assigned, Allows, AllowsOrNull, HasLiveValue, AllowsPacket}
pub use Rattle.reg_state.specs.Scalars.{Has, Encloses}
pub use Rattle.reg_state.specs.declared.kinds.Kind.{Kind}
pub use Rattle.reg_state.specs.declared.kinds.Kind.TheVariants.{Unset, Number, Context, Stack, Packet, PacketEnd, Map, MapValue, MapValueOrNull}
pub use Rattle.reg_state.specs.declared.scalars.Scalar.{Scalar}
pub use Rattle.stack_state.specs.Calls.{kept_kinds, argument_kinds, caller_of, callee_of, entered, with_new_frame, without_last, without_frame, ended, left_kinds, resumed_of, left}
unfoldable pub use Rattle.stack_state.specs.Calls.{unset_slots}
pub use Rattle.stack_state.specs.Effects.{with_slots, with_frame, with_frame_slots, with_spilled, with_kinds, map_kinds, forgotten_in, map_frames, proved_kind, tested_value, tested_kind, forgotten_register, forgotten_frame}
pub use Rattle.stack_state.specs.Facts.{learned, is_plain}
pub use Rattle.stack_state.specs.Identities.{IsFreshNull, named_by, IsFresh, IsLeastFresh, IsFreshPacket}
pub use Rattle.stack_state.specs.Marks.{AreFree, IsFreshAt, IsFreshIn, Marks, is_marked}
unfoldable pub use Rattle.stack_state.specs.Marks.{marked}
pub use Rattle.stack_state.specs.Meaning.{frames_of, no_frame, abstract_frame_at, kind_at, kinds_of, stack_slots_of, depth, registers_of, MeansBy, AssignmentFits}
unfoldable pub use Rattle.stack_state.specs.Meaning.{Means}
pub use Rattle.stack_state.specs.NumberStores.{AreWhole, marks_after, IsSplicedSlot, IsSlotStored, IsBlank}
unfoldable pub use Rattle.stack_state.specs.NumberStores.{StoresNumber}
pub use Rattle.stack_state.specs.Slots.{AreBlankBefore, marks_of, mask_of, slot_at, IsAnyNumber, IsWrittenFill, IsFill, spilled_kind, forgotten_slot, forgotten, frame_slots, kind_in, AreMarked, after_store, AreNumbers, IsLoad, IsNumberSpill, IsSpill, IsAny, ArePart, StackSlots}
pub use Rattle.stack_state.specs.StackMeaning.{SlotMeans, StackMeans, part_of, chunk_of, cells_with, stored_cells, Marked, KeepsOtherMaps, with_maps}
unfoldable pub use Rattle.stack_state.specs.StackMeaning.{StoresBytes, Spills, LoadsNumber, LoadsSlot, ForgetsMap, AreNumberBytes}
pub use Rattle.stack_state.specs.declared.slots.StackSlot.{StackSlot}
pub use Rattle.stack_state.specs.declared.slots.StackSlot.TheVariants.{Written, Spilled}
pub use Rattle.stack_state.specs.declared.states.AbstractFrame.{AbstractFrame}
pub use Rattle.stack_state.specs.declared.states.State.{State}
