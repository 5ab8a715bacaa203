-- The names that most proofs of this crate cite, passed on from one place. Declares nothing.
pub use Rattle.std.proofs.Common.{◌≡◌, ℕ, zero, suc, ◌+◌, ◌<◌, nat_lt, ◌==◌, if◌then◌else◌, Bool, true, false, ℤ, List, [], ◌∷◌, length, drop, map, Option, Some, None, Ok, Err, ap, subst, arith, ◌-◌, ◌*◌, ◌≤◌, ◌++◌, replicate, inl, inr, sym, ◌∙◌, get_or, ◌||◌, ◌⊎◌, slice_get, Result, append_assoc, nat_eq, not, codes, slice_set, ◌&&◌, take, IsTrue, IsSome, ◌^◌, ◌≤ℤ◌, bit_and, lit<, take_all, MatchOption, rules, w32, w64}
pub use Rattle.std.proofs.lemmas.Bool.{cases_lt, le-ltb, cases_eq, lt-ltb}
pub use Rattle.std.proofs.lemmas.Int.{of_z-to_z, to_z-of_z, ints}
pub use Rattle.std.proofs.lemmas.List.{get_or-drop, length-drop, drop-drop, replicate_more, drop_all, append-nil, map-append, length-map, length-append, drop-append-le, take-append-le, get_or-set_same, get_or-set_other, get_or_default, get_or_append_left, get_or-append_right, get_or-replicate, length-replicate, length-take-le, take-append-drop, drop_at, take_at, get_or-take, take_more, take_more_set, ext_get_or, length-set}
pub use Rattle.std.proofs.lemmas.Option.{slice_get-map, slice_get_past, slice_get-get_or, slice_get_read}
pub use Rattle.std.proofs.lemmas.Result.{err_from_is_err_and}
pub use Rattle.std.specs.Option.{option_map, is_some, option_and_then}
pub use Rattle.std.specs.Prelude.{refl}
pub use Rattle.byteorder.specs.Endian.{little_number, little_from}
pub use Rattle.isa_model.specs.Code.Instructions.{Program, fetch}
pub use Rattle.reg_state.specs.declared.kinds.Kind.{Kind}
pub use Rattle.reg_state.specs.declared.kinds.Kind.TheVariants.{Unset, Number, Stack, Context, PacketEnd, Map, MapValueOrNull}
pub use Rattle.reg_state.specs.declared.scalars.Scalar.{Scalar}
pub use Rattle.stack_state.specs.Slots.{frame_slots, slot_at}
pub use Rattle.stack_state.specs.declared.slots.StackSlot.{StackSlot}
pub use Rattle.stack_state.specs.declared.slots.StackSlot.TheVariants.{Spilled, Written}
pub use Rattle.stack_state.specs.declared.states.AbstractFrame.{AbstractFrame}
pub use Rattle.stack_state.specs.declared.states.State.{State}
pub use mir.Val.{SFits, bits, of_z, to_z}
pub use Rattle.table_entries.specs.Blanks.{AreZeros}
pub use Rattle.table_entries.specs.Entries.{Entry, rest_in, entry_with, entry_of, IsAllowed, head_allowed, list_of}
unfoldable pub use Rattle.table_entries.specs.Entries.{named_in, entry_in}
pub use Rattle.table_entries.specs.Forgetting.{IsWeakerList}
pub use Rattle.table_entries.specs.Frames.{frame_allowed, allowed_frame, callers_in}
unfoldable pub use Rattle.table_entries.specs.Frames.{frame_in}
pub use Rattle.table_entries.specs.Growing.{IsEnd, with_entries, Grown, IsBegun, MayGrow, Grows, AllThere, with_place}
pub use Rattle.table_entries.specs.Kinds.{signed_32, lacks_identity, limits_in, packet_of, value_of, marks_in, spilled, range_of, scalar_of, bits_in, wide_in, low_in, has_no_part, bits_when, ordered_when, wide_with, low_with, limits_when}
unfoldable pub use Rattle.table_entries.specs.Kinds.{scalar_in, packet_in, stack_in, map_in, value_in, null_in, fields_in, kind_in, stack_slot_in, bits_of, wide_of, low_of, limits_of}
pub use Rattle.table_entries.specs.KnownBytes.{SpellsFrame, SpellsSlots, SpellFrames, IsNoted, NotesFrame, AreSpelled, ArePassed, BeginsKnown}
pub use Rattle.table_entries.specs.Reading.{Read, sized, then_read, joined, seen, kept, one_more, allowed}
unfoldable pub use Rattle.table_entries.specs.Reading.{many}
pub use Rattle.table_entries.specs.Tables.{before, refusal_of, to_the_end, earlier, first_none, all_of, entry_from, TableView, KeepsEntries, then_entries, count_in, body_in, with_count, all_allowed, count_of, entry_at, table_read}
unfoldable pub use Rattle.table_entries.specs.Tables.{entries_in}
pub use Rattle.table_entries.specs.declared.entries.EntryHead.{EntryHead}
pub use Rattle.table_entries.specs.declared.stops.StopReason.{StopReason}
pub use Rattle.table_entries.specs.declared.stops.StopReason.TheVariants.{Short, Meaningless}
